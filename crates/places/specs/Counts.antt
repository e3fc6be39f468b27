-- The nine counts of MASTER.
use Rattle.std.specs.Prelude.{◌+◌, Option, Some, None}
use Rattle.ascii.specs.Library.{ℕ, Bool, eqb, leb, pick, both}
use Rattle.kinds.specs.declared.{Kind.Kind}
use Rattle.kinds.specs.Kinds.{row_of}
use Rattle.master.specs.declared.{Tally.Tally}
use Rattle.places.specs.declared.{Count.Count, Counts.Counts}
use Rattle.places.specs.declared.Count.TheVariants.{Remark, Het, Helix, Sheet, Xform, Coord, Ter, Conect, Seq}

-- the numbers of the nine counts, and 0 for none
abbrev pub number_of : Count → ℕ
number_of Remark = 1
number_of Het = 2
number_of Helix = 3
number_of Sheet = 4
number_of Xform = 5
number_of Coord = 6
number_of Ter = 7
number_of Conect = 8
number_of Seq = 9

abbrev pub count_number : Option Count → ℕ
count_number None = 0
count_number (Some c) = number_of c

-- the count with a number: above 9 there is none
abbrev pub count_by : ℕ → ℕ
count_by n = pick (leb n 9) n 0

-- which of the nine counts a kind is counted in, 0 for none
abbrev pub count_of : Kind → ℕ
count_of k = (row_of k).count

-- the same of a line once the first model is past (true): coordinates and TER are counted in the first model alone
abbrev pub count_at : Bool → Kind → ℕ
count_at past k = pick (both past (row_of k).slot) 0 (row_of k).count

-- before the first line
abbrev pub no_counts : Counts
no_counts = record { remark = 0; het = 0; helix = 0; sheet = 0; xform = 0; coord = 0; ter = 0; conect = 0; seq = 0 }

-- one more where the numbers agree
abbrev pub one_more : ℕ → ℕ → ℕ → ℕ
one_more which n count = pick (eqb which n) (count + 1) count

-- the counts with the one raised by 1
unfoldable pub raised : Counts → ℕ → Counts
raised c which =
    record {
      remark = one_more which 1 c.remark;
      het = one_more which 2 c.het;
      helix = one_more which 3 c.helix;
      sheet = one_more which 4 c.sheet;
      xform = one_more which 5 c.xform;
      coord = one_more which 6 c.coord;
      ter = one_more which 7 c.ter;
      conect = one_more which 8 c.conect;
      seq = one_more which 9 c.seq;
    }

-- MASTER's numbers are these counts
unfoldable pub same_counts : Tally → Counts → Bool
same_counts t c =
    both (eqb t.remark c.remark)
    (both (eqb t.het c.het)
    (both (eqb t.helix c.helix)
    (both (eqb t.sheet c.sheet)
    (both (eqb t.xform c.xform)
    (both (eqb t.coord c.coord)
    (both (eqb t.ter c.ter)
    (both (eqb t.conect c.conect)
    (eqb t.seq c.seq))))))))
