-- What a run says: its status, and one text.
use Rattle.std.specs.Prelude.{ℕ, List, ◌++◌, codes, decimal}
use Rattle.tool_io.specs.declared.status.Status.{Status}
use Rattle.tool_io.specs.declared.status.Status.TheVariants.{Usage, Reading, Large, ReadFault}
use Rattle.solve_tool.specs.declared.refusal.Refusal.{Refusal}
use Rattle.solve_tool.specs.declared.refusal.Refusal.TheVariants.{OtherWords, Unread, MalformedAt, TooManyBytes, TooManyVariables, TooManyClauses}
use Rattle.tool_io.specs.declared.reply.Reply.{Reply}

-- the status of a refusal
abbrev pub refusal_status : Refusal → Status
refusal_status OtherWords = Usage
refusal_status Unread = ReadFault
refusal_status (MalformedAt line) = Reading
refusal_status (TooManyBytes most) = Large
refusal_status (TooManyVariables most) = Large
refusal_status (TooManyClauses most) = Large

-- its line, without the line feed
abbrev pub refusal_words : Refusal → List ℕ
refusal_words OtherWords = codes "usage: solve [--budget NUMBER] [--log]"
refusal_words Unread = codes "fault read"
refusal_words (MalformedAt line) = codes "fault cnf " ++ decimal line ++ codes " form"
refusal_words (TooManyBytes most) = codes "large text " ++ decimal most
refusal_words (TooManyVariables most) = codes "large variables " ++ decimal most
refusal_words (TooManyClauses most) = codes "large clauses " ++ decimal most

-- the reply of a refusal
abbrev pub refusal_reply : Refusal → Reply
refusal_reply refusal = record { status = refusal_status refusal; text = refusal_words refusal ++ codes "\n" }
