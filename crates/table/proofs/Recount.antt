-- The counts of the lines kept are no larger than those of all lines, so MASTER counted anew fits its columns and reads back.
-- Assumes nothing.
use Rattle.std.proofs.Common.{Option, Some, None}
use Prim.Native.Nat.{ℕ, ◌+◌, ◌≤◌}
use mathlib.Core.List.{List}
use mathlib.Core.Bool.{Bool, true, false, false≢true}
use mathlib.Core.Path.{◌≡◌, refl}
use native.Mathlib.Omega.{arith}
use borrow.Author.Tests.{eqb-true, not-false}
use lib.Dec.{eqb}
use Rattle.rules.specs.declared.Looked.{Looked}
use Rattle.ascii.specs.Tests.{pick}
use Rattle.ascii.proofs.Choice.{picks, both_split}
use Rattle.line.specs.declared.Record.TheVariants.{Master}
use Rattle.master.specs.declared.Tally.{Tally}
use Rattle.pieces.specs.declared.Line.{Line}
use Rattle.pieces.specs.declared.Line.TheVariants.{Bad, Wrong, Carried, Typed}
use Rattle.pieces.specs.Pieces.{line_of}
use Rattle.places.specs.declared.Counts.{Counts}
use Rattle.rules.specs.declared.State.{State}
use Rattle.places.specs.declared.Models.{Models}
use Rattle.places.specs.Counts.{count_at, no_counts, one_more, raised, same_counts}
use Rattle.rules.specs.Rules.{models_next, count_bad, judge_of, carried_next, typed_next, next_of, start_of}
use Rattle.facets.specs.declared.Fence.{Fence}
use Rattle.facets.specs.declared.Fence.TheVariants.{Opens, Shuts}
use Rattle.facets.specs.Facets.{line_kind, total_of, fence_of}
use Rattle.rules.proofs.Laws.{judge_typed, judge_bad, judge_wrong}
use Rattle.table.specs.Deal.{past_after, past_next, counted, tally_of, master_piece, is_total, is_master}
use Rattle.table.specs.FiveDigits.{FiveDigits}
use Rattle.table.proofs.Plain.{PlainTotal, Plain}
use Rattle.table.proofs.Master.{master_line}

-- ---- counts over fewer lines are not larger
pub record Under (a b : Counts) : Type 0 where
  pub remark : a.remark ≤ b.remark
  pub het : a.het ≤ b.het
  pub helix : a.helix ≤ b.helix
  pub sheet : a.sheet ≤ b.sheet
  pub xform : a.xform ≤ b.xform
  pub coord : a.coord ≤ b.coord
  pub ter : a.ter ≤ b.ter
  pub conect : a.conect ≤ b.conect
  pub seq : a.seq ≤ b.seq

pub under_start : Under no_counts start_of.counts
unfolding start_of
under_start =
    record { remark = omega arith; het = omega arith; helix = omega arith; sheet = omega arith; xform = omega arith; coord = omega arith; ter = omega arith; conect = omega arith; seq = omega arith }

one_both : (w n x y : ℕ) → x ≤ y → one_more w n x ≤ one_more w n y
one_both w n x y h = go (eqb w n)
  where
    go : (b : Bool) → pick b (x + 1) x ≤ pick b (y + 1) y
    go true = omega arith
    go false = h

one_skip : (w n x y : ℕ) → x ≤ y → x ≤ one_more w n y
one_skip w n x y h = picks (λ (z : ℕ). x ≤ z) (eqb w n) (y + 1) y (λ _. omega arith) (λ _. h)

under_both : (a b : Counts) (w : ℕ) → Under a b → Under (raised a w) (raised b w)
unfolding raised
under_both a b w u =
    record {
      remark = one_both w 1 _ _ u.remark;
      het = one_both w 2 _ _ u.het;
      helix = one_both w 3 _ _ u.helix;
      sheet = one_both w 4 _ _ u.sheet;
      xform = one_both w 5 _ _ u.xform;
      coord = one_both w 6 _ _ u.coord;
      ter = one_both w 7 _ _ u.ter;
      conect = one_both w 8 _ _ u.conect;
      seq = one_both w 9 _ _ u.seq;
    }

under_skip : (a b : Counts) (w : ℕ) → Under a b → Under a (raised b w)
unfolding raised
under_skip a b w u =
    record {
      remark = one_skip w 1 _ _ u.remark;
      het = one_skip w 2 _ _ u.het;
      helix = one_skip w 3 _ _ u.helix;
      sheet = one_skip w 4 _ _ u.sheet;
      xform = one_skip w 5 _ _ u.xform;
      coord = one_skip w 6 _ _ u.coord;
      ter = one_skip w 7 _ _ u.ter;
      conect = one_skip w 8 _ _ u.conect;
      seq = one_skip w 9 _ _ u.seq;
    }

-- a good line raises the counts of its kind
counts_next : (known : Looked) (s : State) (l : Line) → Plain l → judge_of known s l ≡ 0 → (next_of s l).counts ≡ raised s.counts (count_at s.models.past (line_kind l))
unfolding next_of carried_next typed_next judge_of
counts_next known s (Bad n) p e = absurd (judge_bad known s n e)
counts_next known s (Wrong k column) p e = absurd (judge_wrong known s k column e)
counts_next known s (Carried k) p e = refl
counts_next known s (Typed r) p e = refl

pub under_next : (known : Looked) (stay : Bool) (q : Counts) (s : State) (l : Line) → Plain l → judge_of known s l ≡ 0 → Under q s.counts
    → Under (counted stay s.models.past q l) (next_of s l).counts
unfolding counted
under_next known true q s l p e u = rw (counts_next known s l p e) (under_both q s.counts (count_at s.models.past (line_kind l)) u)
under_next known false q s l p e u = rw (counts_next known s l p e) (under_skip q s.counts (count_at s.models.past (line_kind l)) u)

-- whether the first model is past is told by the lines alone
fence_past : (m : Models) (e : Option Fence) → (models_next m e).past ≡ past_after m.past e
fence_past m (Some (Opens n)) = refl
fence_past m (Some Shuts) = refl
fence_past m None = refl

pub past_next_lem : (known : Looked) (s : State) (l : Line) → Plain l → judge_of known s l ≡ 0 → (next_of s l).models.past ≡ past_next s.models.past l
unfolding next_of carried_next typed_next judge_of
past_next_lem known s (Bad n) p e = absurd (judge_bad known s n e)
past_next_lem known s (Wrong k column) p e = absurd (judge_wrong known s k column e)
past_next_lem known s (Carried k) p e = refl
past_next_lem known s (Typed r) p e = fence_past s.models (fence_of r)

-- ---- counts under those of a MASTER line that holds the true ones are small
small_under : (m : Tally) (c q : Counts) → FiveDigits m → same_counts m c ≡ true → Under q c → FiveDigits (tally_of q)
unfolding same_counts
small_under m c q s e u =
    let e1 = both_split (eqb m.remark c.remark) _ e in
    let e2 = both_split (eqb m.het c.het) _ e1.1 in
    let e3 = both_split (eqb m.helix c.helix) _ e2.1 in
    let e4 = both_split (eqb m.sheet c.sheet) _ e3.1 in
    let e5 = both_split (eqb m.xform c.xform) _ e4.1 in
    let e6 = both_split (eqb m.coord c.coord) _ e5.1 in
    let e7 = both_split (eqb m.ter c.ter) _ e6.1 in
    let e8 = both_split (eqb m.conect c.conect) _ e7.1 in
    record {
      remark = top m.remark c.remark q.remark s.remark e1.0 u.remark;
      het = top m.het c.het q.het s.het e2.0 u.het;
      helix = top m.helix c.helix q.helix s.helix e3.0 u.helix;
      sheet = top m.sheet c.sheet q.sheet s.sheet e4.0 u.sheet;
      xform = top m.xform c.xform q.xform s.xform e5.0 u.xform;
      coord = top m.coord c.coord q.coord s.coord e6.0 u.coord;
      ter = top m.ter c.ter q.ter s.ter e7.0 u.ter;
      conect = top m.conect c.conect q.conect s.conect e8.0 u.conect;
      seq = top m.seq c.seq q.seq s.seq e8.1 u.seq;
    }
  where
    top : (x y z : ℕ) → x ≤ 99999 → eqb x y ≡ true → z ≤ y → z ≤ 99999
    top x y z h k g = omega (arith, eqb-true x y k)

-- so at a good MASTER line they fit its columns
pub master_fits : (known : Looked) (s : State) (q : Counts) (l : Line) → Plain l → judge_of known s l ≡ 0 → Under q s.counts → is_master l ≡ true → FiveDigits (tally_of q)
master_fits known s q (Bad n) plain g u m = absurd (false≢true m)
master_fits known s q (Wrong k column) plain g u m = absurd (false≢true m)
master_fits known s q (Carried k) plain g u m = absurd (false≢true m)
master_fits known s q (Typed r) plain g u m = go (total_of r) plain (judge_typed known s r g).count m
  where
    go : (t : Option Tally) → PlainTotal t → count_bad s.counts t ≡ false → is_total t ≡ true → FiveDigits (tally_of q)
    go (Some t) p c e = small_under t s.counts q p (not-false _ c) u
    go None p c e = absurd (false≢true e)

-- ---- a line as it is written reads as the line, MASTER with its new counts
abbrev pub recounted : Counts → Line → Line
recounted q l = pick (is_master l) (Typed (Master (tally_of q))) l

pub written_line : (known : Looked) (s : State) (q : Counts) (p : List ℕ) (l : Line) → line_of p ≡ l → Plain l → judge_of known s l ≡ 0 → Under q s.counts
    → line_of (pick (is_master l) (master_piece q) p) ≡ recounted q l
written_line known s q p l e plain g u = go (is_master l) refl
  where
    go : (b : Bool) → is_master l ≡ b → line_of (pick b (master_piece q) p) ≡ pick b (Typed (Master (tally_of q))) l
    go true m = master_line q (master_fits known s q l plain g u m)
    go false m = e
