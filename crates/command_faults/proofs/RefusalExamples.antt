-- The definitions of places and faults on small examples.
use Rattle.std.proofs.Common.{inl, inr}
use Rattle.std.specs.Prelude.{◌≡◌, ℕ, List, codes, refl}
use Rattle.tsl_reader.specs.declared.SpecError.TheVariants.{Kind, DeepUse, Nodes}
use Rattle.tsl_report.specs.declared.fault.LimitName.TheVariants.{Nodes as NodesLimit}
use Rattle.tsl_report.specs.declared.fault.Fault.TheVariants.{Kind as KindFault, DeepUse as DeepUseFault, Large}
use Rattle.command_faults.specs.Refusals.{IsPlaceOf, name_between, IsFaultOf}

-- the second byte of the second line
second_line : IsPlaceOf (codes "a;\nbc") 4 (record { line = 2; column = 2 })
second_line = record {
  line = refl;
  column = record { lines = codes "a;\n"; line = codes "b"; split = refl; begins = inr (codes "a;", refl); whole = refl; count = refl };
}

-- the end of a text after a line feed
after_all : IsPlaceOf (codes "a\n") 2 (record { line = 2; column = 1 })
after_all = record {
  line = refl;
  column = record { lines = codes "a\n"; line = codes ""; split = refl; begins = inr (codes "a", refl); whole = refl; count = refl };
}

name_of_fault : name_between (codes "p ab ab'c;") 5 9 ≡ codes "ab'c"
name_of_fault = refl

kind_fault : IsFaultOf (codes "f x; [y <- f x];") (Kind 11 12) (KindFault (record { line = 1; column = 12 }) (codes "f"))
kind_fault = (
  record { line = 1; column = 12 },
  record {
    line = refl;
    column = record { lines = codes ""; line = codes "f x; [y <- "; split = refl; begins = inl refl; whole = refl; count = refl };
  },
  refl,
)

deep_use_fault : IsFaultOf (codes "guarantee { ab; }") (DeepUse 12 14) (DeepUseFault (record { line = 1; column = 13 }) (codes "ab"))
deep_use_fault = (
  record { line = 1; column = 13 },
  record {
    line = refl;
    column = record { lines = codes ""; line = codes "guarantee { "; split = refl; begins = inl refl; whole = refl; count = refl };
  },
  refl,
)

nodes_fault : (text : List ℕ) → IsFaultOf text Nodes (Large NodesLimit 10000)
nodes_fault text = refl
