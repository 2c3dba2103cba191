use Rattle.std.proofs.Common.{◌≡◌, ◌+◌, ◌<◌, ◌^◌, length, map, drop}
use Rattle.tsl_terms.specs.Clashes.{with_uses, first_uses}
use Rattle.spec_syntax.specs.SyntaxView.{declaration_syntax}
use Rattle.name_resolution.specs.Heads.{heads_in, heads_size}
use Rattle.name_resolution.proofs.defined.heads.Given as goal

-- the names so far, and then those that the declarations that are left define
abbrev pub invariant-loop-declaration : goal.invariant-loop-declaration
invariant-loop-declaration l = record {
  names_are : with_uses l.names (heads_in (map declaration_syntax (drop l.declaration-index l.declarations)))
      ≡ first_uses (heads_in (map declaration_syntax l.declarations));
  few : length l.names + heads_size (map declaration_syntax (drop l.declaration-index l.declarations)) < 2 ^ 32;
}
