use Rattle.std.proofs.Common.{◌≡◌, ◌-◌, ◌<◌, ◌≤◌, ◌^◌, true, length, take}
use Rattle.std.specs.List.{list_all}
use Rattle.std.specs.Char.{is_ascii_digit}
use Rattle.tsl_text.specs.Numbers.{value_of}
use Rattle.cnf_reader.proofs.walk.plain_digits.Given as goal

abbrev pub invariant-loop-len : goal.invariant-loop-len
invariant-loop-len l = record {
  within : l.len ≤ length l.text;
  few : l.len ≤ 18;
  digits : list_all is_ascii_digit (take l.len l.text) ≡ true;
  value : l.value ≡ value_of (take l.len l.text);
  small : l.value < 10 ^ l.len;
}

abbrev pub decreases-loop-len : goal.decreases-loop-len
decreases-loop-len l = 18 - l.len
