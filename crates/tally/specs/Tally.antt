-- The tally: nine counts, brought up to date one line at a time.
use Rattle.std.specs.Prelude.{◌≡◌, ◌∷◌, Result, Ok, Err}
use Rattle.ascii.specs.Library.{ℕ, List, [], Bool, eqb, ltb, pick}
use Rattle.kinds.specs.Kinds.{is_named, kind_of}
use Rattle.master.specs.declared.{Tally.Tally}
use Rattle.places.specs.Counts.{count_at, one_more}
use Rattle.refusals.specs.declared.{Refusal.Refusal}

-- no count goes above this
abbrev pub most : ℕ
most = 99999

-- the count with that number, 0 for none
unfoldable pub count_in : Tally → ℕ → ℕ
count_in t which =
    pick (eqb which 1) t.remark
    (pick (eqb which 2) t.het
    (pick (eqb which 3) t.helix
    (pick (eqb which 4) t.sheet
    (pick (eqb which 5) t.xform
    (pick (eqb which 6) t.coord
    (pick (eqb which 7) t.ter
    (pick (eqb which 8) t.conect
    (pick (eqb which 9) t.seq 0))))))))

-- the tally with that count raised by 1
unfoldable pub raised_tally : Tally → ℕ → Tally
raised_tally t which =
    record {
      remark = one_more which 1 t.remark;
      het = one_more which 2 t.het;
      helix = one_more which 3 t.helix;
      sheet = one_more which 4 t.sheet;
      xform = one_more which 5 t.xform;
      coord = one_more which 6 t.coord;
      ter = one_more which 7 t.ter;
      conect = one_more which 8 t.conect;
      seq = one_more which 9 t.seq;
    }

-- the number that is answered, and what the tally then holds
pub record Counted : Type 0 where
  pub number : ℕ
  pub tally : Tally

abbrev pub told_tally : ℕ → Tally → Counted
told_tally n t = record { number = n; tally = t }

-- what the tally holds after an answer: a refusal leaves it as found
abbrev pub tally_in : Result Tally Refusal → Tally → Tally
tally_in (Ok t) found = t
tally_in (Err r) found = found

-- 14: the count to be raised is 99,999 or above; a name that is not counted raises none
unfoldable pub tally_step : Tally → ℕ → Counted
tally_step t which = pick (ltb (count_in t which) most) (told_tally 0 (raised_tally t which)) (told_tally 14 t)

-- 4: a line under six bytes or of unknown name; once the first ENDMDL has gone by (true) ATOM, HETATM and TER have no count
unfoldable pub tally_line : Bool → Tally → List ℕ → Counted
tally_line past t l = pick (is_named (kind_of l)) (tally_step t (count_at past (kind_of l))) (told_tally 4 t)

-- ---- lines one after another, all before the first ENDMDL has gone by or all after (true)
-- the tally after some lines
abbrev pub tally_all : Bool → Tally → List (List ℕ) → Tally
tally_all past t [] = t
tally_all past t (l ∷ ls) = tally_all past (tally_line past t l).tally ls

-- none of them is refused
abbrev pub Granted : Bool → Tally → List (List ℕ) → Type 0
Granted past t [] = Unit {0}
Granted past t (l ∷ ls) = ((tally_line past t l).number ≡ 0) × Granted past (tally_line past t l).tally ls

-- how many of them are counted under a number
abbrev pub lines_of : Bool → ℕ → List (List ℕ) → ℕ
lines_of past n [] = 0
lines_of past n (l ∷ ls) = one_more (count_at past (kind_of l)) n (lines_of past n ls)
