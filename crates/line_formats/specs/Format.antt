-- Formats of lines as data: fixed bytes, leaves, repeated parts and choices. What a format's values are, how they are
-- written and how they are read are functions of the format. Laws about them: `proofs/FormatLaws`.
use Rattle.std.specs.Prelude.{ℕ, zero, suc, ◌==◌, nat_lt, nat_le, Bool, true, false, not, ◌&&◌, ◌||◌, List, [], ◌∷◌, ◌++◌, length, Option}
use Rattle.std.specs.Prelude.{Some, None, option_and_then, ◌⊎◌, flat_map, if◌then◌else◌}
use Rattle.std.proofs.Common.{inl, inr}
use Rattle.std.specs.List.{list_all}

-- ---- sets of bytes, as ranges

abbrev pub Bytes : Type 0
Bytes = List (ℕ × ℕ)

abbrev pub one_byte : ℕ → Bytes
one_byte b = (b, b) ∷ []

abbrev pub in_range : ℕ → ℕ × ℕ → Bool
in_range b r = nat_le r.0 b && nat_le b r.1

abbrev pub has : Bytes → ℕ → Bool
has [] b = false
has (r ∷ rs) b = in_range b r || has rs b

abbrev pub is_apart : ℕ × ℕ → ℕ × ℕ → Bool
is_apart r s = nat_lt r.1 s.0 || nat_lt s.1 r.0

-- no byte is in both
abbrev pub are_apart : Bytes → Bytes → Bool
are_apart rs ss = list_all (λ r. list_all (is_apart r) ss) rs

-- the bytes are none, or the first is not of these
abbrev pub stops : Bytes → List ℕ → Bool
stops set [] = true
stops set (b ∷ bs) = not (has set b)

abbrev pub begins : Bytes → List ℕ → Bool
begins set [] = false
begins set (b ∷ bs) = has set b

-- ---- leaves

abbrev pub PartReader : Type 0 → Type 0
PartReader V = List ℕ → Option (V × List ℕ)

-- a part whose values are written and read by functions of its own
pub record Leaf (V : Type 0) : Type 0 where
  pub print : V → List ℕ
  pub fits : V → Bool
  pub read : PartReader V
  -- the bytes with which it may begin, those with which it may go on, and whether it may be without a byte
  pub starts : Bytes
  pub takes : Bytes
  pub empty : Bool

-- ---- formats

-- The leaves are named by the members of `I`.
pub data Format (I : Type 0) : Type 0 where
  nothing : Format I
  -- these bytes, and then the rest
  fixed : List ℕ → Format I → Format I
  -- a leaf, and then the rest
  leaf : I → Format I → Format I
  -- the first format as often as it begins, and then the rest
  many : Format I → Format I → Format I
  -- the first format where it begins, and otherwise the second
  choice : Format I → Format I → Format I

module _ {I : Type 0} (V : I → Type 0) where
  -- what a format writes and reads
  abbrev pub Value : Format I → Type 0
  Value nothing = Unit {0}
  Value (fixed w f) = Value f
  Value (leaf i f) = V i × Value f
  Value (many m f) = List (Value m) × Value f
  Value (choice f g) = Value f ⊎ Value g

-- ---- readers

abbrev pub strip : List ℕ → List ℕ → Option (List ℕ)
strip [] bytes = Some bytes
strip (w ∷ ws) [] = None
strip (w ∷ ws) (b ∷ bs) = if w == b then strip ws bs else None

module _ {A B : Type 0} where
  abbrev pub with_first : A → Option (B × List ℕ) → Option ((A × B) × List ℕ)
  with_first a None = None
  with_first a (Some r) = Some ((a, r.0), r.1)

  abbrev pub then_read : Option (A × List ℕ) → PartReader B → Option ((A × B) × List ℕ)
  then_read None next = None
  then_read (Some r) next = with_first r.0 (next r.1)

  abbrev pub mapped : (A → B) → Option (A × List ℕ) → Option (B × List ℕ)
  mapped make None = None
  mapped make (Some r) = Some (make r.0, r.1)

module _ {A : Type 0} where
  abbrev pub push_front : A → Option (List A × List ℕ) → Option (List A × List ℕ)
  push_front a None = None
  push_front a (Some r) = Some (a ∷ r.0, r.1)

  abbrev pub and_more : Option (A × List ℕ) → PartReader (List A) → Option (List A × List ℕ)
  and_more None more = None
  and_more (Some r) more = push_front r.0 (more r.1)

  abbrev pub next_member : Bool → List ℕ → Option (A × List ℕ) → PartReader (List A) → Option (List A × List ℕ)
  next_member false bytes first more = Some ([], bytes)
  next_member true bytes first more = and_more first more

  -- as often as a member begins, at most so often
  unfoldable pub repeat : ℕ → Bytes → PartReader A → PartReader (List A)
  repeat zero set reader bytes = None
  repeat (suc most) set reader bytes = next_member (begins set bytes) bytes (reader bytes) (repeat most set reader)

  abbrev pub at_end : Option (A × List ℕ) → Option A
  at_end None = None
  at_end (Some (a, [])) = Some a
  at_end (Some (a, b ∷ bs)) = None

-- the answer of the first or of the second
abbrev pub chosen : {A B : Type 0} → Bool → Option (A × List ℕ) → Option (B × List ℕ) → Option ((A ⊎ B) × List ℕ)
chosen true first second = mapped inl first
chosen false first second = mapped inr second

-- ---- what follows from a format

module _ {I : Type 0} (V : I → Type 0) (leaves : (i : I) → Leaf (V i)) where
  abbrev pub may_be_empty : Format I → Bool
  may_be_empty nothing = true
  may_be_empty (fixed [] f) = may_be_empty f
  may_be_empty (fixed (b ∷ w) f) = false
  may_be_empty (leaf i f) = (leaves i).empty && may_be_empty f
  may_be_empty (many m f) = may_be_empty f
  may_be_empty (choice f g) = may_be_empty g

  abbrev pub starts : Format I → Bytes
  starts nothing = []
  starts (fixed [] f) = starts f
  starts (fixed (b ∷ w) f) = one_byte b
  starts (leaf i f) = (leaves i).starts ++ (if (leaves i).empty then starts f else [])
  starts (many m f) = starts m ++ starts f
  starts (choice f g) = starts f ++ starts g

  -- the bytes that must not follow
  abbrev pub takes : Format I → Bytes
  takes nothing = []
  takes (fixed w f) = takes f
  takes (leaf i f) = takes f ++ (if may_be_empty f then (leaves i).takes else [])
  takes (many m f) = takes f ++ (if may_be_empty f then starts m ++ takes m else [])
  takes (choice f g) = takes f ++ (takes g ++ (if may_be_empty g then starts f else []))

  -- each text is read in one way
  abbrev pub is_clear : Format I → Bool
  is_clear nothing = true
  is_clear (fixed w f) = is_clear f
  is_clear (leaf i f) = is_clear f && are_apart (starts f) (leaves i).takes
  is_clear (many m f) =
      (is_clear m && is_clear f) && (not (may_be_empty m) && (are_apart (starts f) (starts m ++ takes m) && are_apart (starts m) (takes m)))
  is_clear (choice f g) = (is_clear f && is_clear g) && (not (may_be_empty f) && are_apart (starts g) (starts f))

  -- no line feed is among the fixed bytes
  abbrev pub is_feedless : Format I → Bool
  is_feedless nothing = true
  is_feedless (fixed w f) = list_all (λ b. not (b == 10)) w && is_feedless f
  is_feedless (leaf i f) = is_feedless f
  is_feedless (many m f) = is_feedless m && is_feedless f
  is_feedless (choice f g) = is_feedless f && is_feedless g

  abbrev pub fits : (f : Format I) → Value V f → Bool
  fits nothing v = true
  fits (fixed w f) v = fits f v
  fits (leaf i f) v = (leaves i).fits v.0 && fits f v.1
  fits (many m f) v = list_all (fits m) v.0 && fits f v.1
  fits (choice f g) (inl v) = fits f v
  fits (choice f g) (inr v) = fits g v

  abbrev pub print : (f : Format I) → Value V f → List ℕ
  print nothing v = []
  print (fixed w f) v = w ++ print f v
  print (leaf i f) v = (leaves i).print v.0 ++ print f v.1
  print (many m f) v = flat_map (print m) v.0 ++ print f v.1
  print (choice f g) (inl v) = print f v
  print (choice f g) (inr v) = print g v

  abbrev pub read : (f : Format I) → PartReader (Value V f)
  read nothing bytes = Some (tt, bytes)
  read (fixed w f) bytes = option_and_then (read f) (strip w bytes)
  read (leaf i f) bytes = then_read ((leaves i).read bytes) (read f)
  read (many m f) bytes = then_read (repeat (suc (length bytes)) (starts m) (read m) bytes) (read f)
  read (choice f g) bytes = chosen (begins (starts f) bytes) (read f bytes) (read g bytes)

  -- the value of a whole line
  abbrev pub value_of_line : (f : Format I) → List ℕ → Option (Value V f)
  value_of_line f line = at_end (read f line)
