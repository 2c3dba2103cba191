-- What the code reads, without where it lies in memory.
use Rattle.std.specs.Prelude.{ℕ, List, map, Vec}
use Rattle.std.specs.declared.alloc.Global.{Global}
use Rattle.table_syntax.specs.declared.text_tokens.TextToken.{TextToken as LentToken}
use Rattle.table_syntax.specs.declared.reading.Entry.{Entry as ReadEntry}
use Rattle.table_syntax.specs.declared.reading.TablesText.{TablesText}
use Rattle.table_syntax.specs.declared.reading.InputsText.{InputsText}
use Rattle.table_syntax.specs.declared.words.WordEntry.{WordEntry as ReadWordEntry}
use Rattle.table_syntax.specs.declared.words.WordsText.{WordsText}
use Rattle.table_syntax.specs.Syntax.{TextToken, Entry, TablesSyntax, WordEntry, WordsSyntax, InputsSyntax}

abbrev pub text_token_view : LentToken → TextToken
text_token_view x = record { token = x.token; text = x.text.now }

abbrev pub text_tokens_view : List LentToken → List TextToken
text_tokens_view xs = map text_token_view xs

abbrev pub entry_view : ReadEntry → Entry
entry_view e = record { kind = e.kind; name = text_token_view e.name; numbers = e.numbers.items }

abbrev pub entries_view : List ReadEntry → List Entry
entries_view es = map entry_view es

abbrev pub numbers_view : List (Vec ℕ Global) → List (List ℕ)
numbers_view rows = map (λ row. row.items) rows

abbrev pub tables_view : TablesText → TablesSyntax
tables_view t = record { domain = t.domain; entries = entries_view t.entries.items }

abbrev pub word_entry_view : ReadWordEntry → WordEntry
word_entry_view e = record { name = text_token_view e.name; given = e.given }

abbrev pub word_entries_view : List ReadWordEntry → List WordEntry
word_entries_view es = map word_entry_view es

abbrev pub words_view : WordsText → WordsSyntax
words_view t = record { bits = t.bits; entries = word_entries_view t.entries.items }

abbrev pub inputs_view : InputsText → InputsSyntax
inputs_view t = record {
  names = text_tokens_view t.names.items;
  stem = numbers_view t.stem.items;
  cycle = numbers_view t.cycle.items;
}
