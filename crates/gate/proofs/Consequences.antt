-- What follows of a text from the answer of the check, in plain words.
-- Assumes nothing.
use Rattle.std.proofs.Common.{Option, Some, None}
use Prim.Native.Nat.{ℕ, zero, suc, ◌+◌, ◌*◌, ◌-◌, ◌≤◌, ◌<◌}
use mathlib.Core.List.{List, [], ◌∷◌, map}
use mathlib.Core.Bool.{Bool, true, false, not, false≢true}
use mathlib.Core.Path.{◌≡◌, refl, sym, ◌∙◌, ap, ap₂}
use mathlib.Core.Logic.{◌⊎◌, inl, inr}
use native.Mathlib.Omega.{arith}
use native.Mathlib.Numerals.{add-one}
use borrow.Author.Tests.{eqb-true, ltb-true, ltb-false}
use lib.Dec.{eqb, ltb}
use lib.ListN.{length, take, drop, length-take}
use lib.Seq.{take-take}
use Rattle.ascii.specs.Tests.{either, pick}
use Rattle.ascii.proofs.Choice.{picks, not_false, both_split, either_split, either_none}
use Rattle.coordinate.specs.declared.Identity.{Identity}
use Rattle.coordinate.specs.declared.Atom.{Atom}
use Rattle.residue.specs.Residues.{same_residue}
use Rattle.master.specs.declared.Tally.{Tally}
use Rattle.conect.specs.declared.Conect.{Conect as ConectOf}
use Rattle.line.specs.declared.Record.{Record}
use Rattle.transform.specs.declared.Axis.{Axis}
use Rattle.transform.specs.Transforms.{transform_kind}
use Rattle.line.proofs.Crystal.{each_transform}
use Rattle.line.specs.declared.Record.TheVariants.{Coordinate, Ter, Helix, Sheet, Conect, Master, End, Model, Endmdl, Cell, Transform}
use Rattle.pieces.specs.declared.Line.{Line}
use Rattle.pieces.specs.declared.Line.TheVariants.{Bad, Wrong, Carried, Typed}
use Rattle.pieces.specs.Pieces.{line_of}
use Rattle.places.specs.declared.Counts.{Counts}
use Rattle.rules.specs.declared.Looked.{Looked}
use Rattle.rules.specs.declared.State.{State}
use Rattle.kinds.specs.Kinds.{row_of}
use Rattle.places.specs.Places.{end_place}
use Rattle.places.specs.declared.Models.{Models}
use Rattle.places.specs.Counts.{count_at, raised, same_counts}
use Rattle.facets.specs.declared.Fence.{Fence}
use Rattle.facets.specs.declared.Fence.TheVariants.{Opens, Shuts}
use Rattle.facets.specs.Facets.{record_kind, line_kind, fence_of, fence_in, is_coord, is_fence}
use Rattle.rules.specs.Rules.{models_next, judge_of, next_of, carried_next, typed_next, start_of}
use Rattle.rules.proofs.Laws.{judge_typed, judge_bad, judge_wrong}
use Rattle.gate.specs.Gate.{Verdict}
use Rattle.rows.specs.Text.{piece_at, row, down}
use Rattle.serials.specs.Known.{is_site, some_of, front, named, partner_known, bond_known}
use Rattle.gate.specs.Gate.{column_of, look_of, refused_of, finish_of, check_lines, check_of}
use Rattle.gate.specs.Promise.{PartnerBefore, Names, SixFields, OneModel, is_shut, past_at, lines_of, counts_to, Consequences}
use Rattle.serials.specs.Search.{serial_of, base_of}
use Rattle.rows.proofs.Cut.{cut_done}
use Rattle.serials.proofs.Rows.{carried_ends}
use Rattle.serials.proofs.Block.{base_same, base_le, front_at}
use Rattle.serials.proofs.Models.{coord_off}
use Rattle.twins.specs.Twins.{same_atom, is_twin}
use Rattle.twins.proofs.Self.{atom_self}
use Rattle.gate.proofs.Models.{numbered, held}
use Rattle.gate.proofs.Columns.{column_read}
use Rattle.gate.proofs.Runs.{state_at, GoodTo, Reached, reached, unrolled, answered, no_column}

-- ---- lines of one model
-- line j stands after the last MODEL or ENDMDL before line k
one_base : (t : List ℕ) (j k : ℕ) → j < k → OneModel t j k → is_fence (row t j) ≡ false → base_of (row t) k ≤ j
unfolding base_of
one_base t j zero h m f = absurd (omega arith)
one_base t j (suc k) h m f = go (λ g. one_base t j k g (λ i x y. m i x (omega arith)) f) (is_fence (row t k)) refl (ltb j k) refl
  where
    go : (j < k → base_of (row t) k ≤ j) → (x : Bool) → is_fence (row t k) ≡ x → (y : Bool) → ltb j k ≡ y → pick x (suc k) (base_of (row t) k) ≤ j
    go r true u true v = absurd (false≢true (sym (m k (ltb-true _ _ v) (omega arith)) ∙ u))
    go r true u false v = let q : j ≡ k = omega (arith, ltb-false j k v) in absurd (false≢true (sym f ∙ rw q u))
    go r false u true v = r (ltb-true _ _ v)
    go r false u false v = let q : j ≡ k = omega (arith, ltb-false j k v) in omega (arith, base_le (row t) k)

-- ---- serials rise
-- the serial of a good coordinate line is above those before it in its model
pub rising : (t : List ℕ) (n : ℕ) → GoodTo (row t) n → (j k : ℕ) → j < k → k < n → OneModel t j k → is_coord (row t j) ≡ true → is_coord (row t k) ≡ true
    → serial_of (row t j) < serial_of (row t k)
rising t n g j k h l m cj ck =
    let R = reached t (suc k) (λ i x. g i (omega arith)) in
    let f : is_fence (row t k) ≡ false = coord_off (row t k) ck in
    let base : base_of (row t) (suc k) ≡ base_of (row t) k = ap (base_of (row t)) (sym (add-one k)) ∙ base_same (row t) k f in
    let b : base_of (row t) (suc k) ≤ j = omega (arith, base, one_base t j k h m (coord_off (row t j) cj)) in
    let lo : R.span.lo ≤ j = low R b (ltb j R.span.lo) refl in
    let hi : k < R.span.hi = high R b (ltb k R.span.hi) refl in
    R.block.rise j k lo h hi
  where
    low : (R : Reached t (suc k)) → base_of (row t) (suc k) ≤ j → (b : Bool) → ltb j R.span.lo ≡ b → R.span.lo ≤ j
    low R x true u = absurd (false≢true (sym (R.block.low j x (ltb-true _ _ u)) ∙ cj))
    low R x false u = ltb-false j R.span.lo u

    high : (R : Reached t (suc k)) → base_of (row t) (suc k) ≤ j → (b : Bool) → ltb k R.span.hi ≡ b → k < R.span.hi
    high R x true u = ltb-true k R.span.hi u
    high R x false u = absurd (false≢true (sym (R.block.high k (omega arith) (ltb-false _ _ u) (omega arith)) ∙ ck))

-- ---- no two atoms share the six fields
shared_same : (a b : Identity) → SixFields b a → same_atom b a ≡ true
unfolding same_atom same_residue
shared_same a b e =
    let s = atom_self a in
    rw (e.residue_name, e.chain, e.residue_number, e.insertion, e.name, e.alternate) s

pub differ : (t : List ℕ) (n : ℕ) → GoodTo (row t) n → (j k : ℕ) (x y : Bool) (a b : Atom) → j < k → k < n → OneModel t j k → row t j ≡ Typed (Coordinate x a)
    → row t k ≡ Typed (Coordinate y b) → SixFields b.identity a.identity → ⊥
differ t n g j k x y a b h l m ea eb e =
    let q : judge_of (look_of (down (row t) k) (Typed (Coordinate y b))) (state_at (row t) k) (Typed (Coordinate y b)) ≡ 0 = rw eb at (g k l) in
    let z : some_of (is_twin b.identity) (front (down (row t) k)) ≡ false = (judge_typed _ (state_at (row t) k) (Coordinate y b) q).twin in
    let f : is_twin b.identity (row t j) ≡ true = rw ea (shared_same a.identity b.identity e) in
    false≢true (sym z ∙ front_at (is_twin b.identity) (row t) k j (one_base t j k h m (ap is_fence ea)) h f)

-- ---- every number on a CONECT line is the serial of an ATOM or HETATM line before it
some_where : (f : Line → Bool) (L : ℕ → Line) (n : ℕ) → some_of f (down L n) ≡ true → (j : ℕ) × (j < n) × (f (L j) ≡ true)
unfolding some_of down
some_where f L zero e = absurd (false≢true e)
some_where f L (suc n) e =
    either_split (f (L n)) (some_of f (down L n)) (λ y. (n, omega arith, y)) (λ y. let w = some_where f L n y in (w.0, omega (arith, w.1), w.2)) e

known_of : (known b : Bool) → either (not known) b ≡ false → known ≡ true
known_of known b e = not_false known (either_none (not known) b e).0

partner_where : (t : List ℕ) (i x : ℕ) → partner_known (down (row t) i) x ≡ true → PartnerBefore t i x
partner_where t i x e = either_split (eqb x 0) (named (down (row t) i) x) (λ y. inl (eqb-true x 0 y)) (λ y. inr (some_where (is_site x) (row t) i y)) e

names_of : (t : List ℕ) (i : ℕ) (c : ConectOf) → bond_known (down (row t) i) (Some c) ≡ true → Names t i c
names_of t i c e =
    let x = both_split (named (down (row t) i) c.serial.0) _ e in
    let y = both_split (partner_known (down (row t) i) c.a.0) _ x.1 in
    let z = both_split (partner_known (down (row t) i) c.b.0) _ y.1 in
    let w = both_split (partner_known (down (row t) i) c.c.0) _ z.1 in
    record {
      serial = some_where (is_site c.serial.0) (row t) i x.0;
      a = partner_where t i c.a.0 y.0;
      b = partner_where t i c.b.0 z.0;
      c = partner_where t i c.c.0 w.0;
      d = partner_where t i c.d.0 w.1;
    }

pub conect_names : (t : List ℕ) (n i : ℕ) (c : ConectOf) → GoodTo (row t) n → i < n → row t i ≡ Typed (Conect c) → Names t i c
conect_names t n i c g h e =
    let j : judge_of (look_of (down (row t) i) (Typed (Conect c))) (state_at (row t) i) (Typed (Conect c)) ≡ 0 = rw e at (g i h) in
    names_of t i c (known_of _ _ (judge_typed _ (state_at (row t) i) (Conect c) j).bond)

-- ---- the counts are the numbers of such lines
counts_next : (s : State) (look : Looked) (l : Line) → judge_of look s l ≡ 0 → (next_of s l).counts ≡ raised s.counts (count_at s.models.past (line_kind l))
unfolding next_of carried_next typed_next judge_of
counts_next s look (Bad n) j = absurd (judge_bad look s n j)
counts_next s look (Wrong k c) j = absurd (judge_wrong look s k c j)
counts_next s look (Carried k) j = refl
counts_next s look (Typed r) j = refl

-- whether the first model is past
fence_past : (m : Models) (e : Option Fence) → (models_next m e).past ≡ either (is_shut e) m.past
unfolding either
fence_past m (Some (Opens n)) = refl
fence_past m (Some Shuts) = refl
fence_past m None = refl

past_next_lem : (s : State) (look : Looked) (l : Line) → judge_of look s l ≡ 0 → (next_of s l).models.past ≡ either (is_shut (fence_in l)) s.models.past
unfolding next_of carried_next typed_next judge_of either
past_next_lem s look (Bad n) j = absurd (judge_bad look s n j)
past_next_lem s look (Wrong k c) j = absurd (judge_wrong look s k c j)
past_next_lem s look (Carried k) j = refl
past_next_lem s look (Typed r) j = fence_past s.models (fence_of r)

pub past_so : (t : List ℕ) (n : ℕ) → GoodTo (row t) n → (state_at (row t) n).models.past ≡ past_at t n
unfolding state_at past_at start_of
past_so t zero g = refl
past_so t (suc n) g =
    past_next_lem (state_at (row t) n) _ (row t n) (g n (omega arith))
    ∙ ap (either (is_shut (fence_in (row t n)))) (past_so t n (λ j h. g j (omega arith)))

pub counted : (t : List ℕ) (n : ℕ) → GoodTo (row t) n → (state_at (row t) n).counts ≡ counts_to t n
unfolding state_at lines_of start_of raised
counted t zero g = refl
counted t (suc n) g =
    let h : GoodTo (row t) n = λ j k. g j (omega arith) in
    counts_next (state_at (row t) n) _ (row t n) (g n (omega arith))
    ∙ ap₂ (λ (c : Counts) (p : Bool). raised c (count_at p (line_kind (row t n)))) (counted t n h) (past_so t n h)

-- MASTER's numbers are the numbers of such lines before it
pub master_totals : (t : List ℕ) (n i : ℕ) (m : Tally) → GoodTo (row t) n → i < n → row t i ≡ Typed (Master m) → same_counts m (counts_to t i) ≡ true
master_totals t n i m g h e =
    let j : judge_of (look_of (down (row t) i) (Typed (Master m))) (state_at (row t) i) (Typed (Master m)) ≡ 0 = rw e at (g i h) in
    ap (same_counts m) (sym (counted t i (λ k l. g k (omega arith)))) ∙ not_false _ (judge_typed _ (state_at (row t) i) (Master m) j).count

-- ---- the last line is END

transform_front : (scale : Bool) (axis : Axis) → (row_of (transform_kind scale axis)).here ≡ end_place → ⊥
transform_front =
    each_transform (λ k. (row_of k).here ≡ end_place → ⊥) (λ x. omega arith) (λ x. omega arith) (λ x. omega arith) (λ x. omega arith) (λ x. omega arith) (λ x. omega arith)

record_ends : (r : Record) → (row_of (record_kind r)).here ≡ end_place → r ≡ End
record_ends (Coordinate true a) e = absurd (omega arith)
record_ends (Coordinate false a) e = absurd (omega arith)
record_ends (Ter t) e = absurd (omega arith)
record_ends (Helix h) e = absurd (omega arith)
record_ends (Sheet s) e = absurd (omega arith)
record_ends (Conect c) e = absurd (omega arith)
record_ends (Master m) e = absurd (omega arith)
record_ends End e = refl
record_ends (Model m) e = absurd (omega arith)
record_ends Endmdl e = absurd (omega arith)
record_ends (Cell c) e = absurd (omega arith)
record_ends (Transform scale axis t) e = absurd (transform_front scale axis e)

line_ends : (t : List ℕ) (i : ℕ) (s : State) (look : Looked) (l : Line) → row t i ≡ l → judge_of look s l ≡ 0 → (next_of s l).place ≡ end_place → l ≡ Typed End
unfolding next_of carried_next typed_next judge_of
line_ends t i s look (Bad n) e j p = absurd (judge_bad look s n j)
line_ends t i s look (Wrong k c) e j p = absurd (judge_wrong look s k c j)
line_ends t i s look (Carried k) e j p = absurd (carried_ends t i k e p)
line_ends t i s look (Typed r) e j p = ap Typed (record_ends r p)

pub end_last : (t : List ℕ) (n : ℕ) → GoodTo (row t) n → (state_at (row t) n).place ≡ end_place → (0 < n) × (row t (n - 1) ≡ Typed End)
unfolding state_at start_of
end_last t zero g p = absurd (omega arith)
end_last t (suc m) g p =
    let q : suc m - 1 ≡ m = omega arith in
    (omega arith, rw q (line_ends t m (state_at (row t) m) _ (row t m) refl (g m (omega arith)) p))

-- ---- the good lines by themselves
-- the lines of the first n pieces are those of the whole text
part_piece : (t : List ℕ) (n j : ℕ) → j < n → piece_at (take (81 * n) t) j ≡ piece_at t j
unfolding piece_at
part_piece t n j h = cut_part t (81 * j) (81 * n) (omega arith)
  where
    cut_part : (t : List ℕ) (a b : ℕ) → a + 81 ≤ b → take 81 (drop a (take b t)) ≡ take 81 (drop a t)
    cut_part t zero b k = take-take 81 b t (omega arith)
    cut_part [] (suc a) zero k = refl
    cut_part [] (suc a) (suc b) k = refl
    cut_part (x ∷ t) (suc a) zero k = absurd (omega arith)
    cut_part (x ∷ t) (suc a) (suc b) k = cut_part t a b (omega arith)

part_row : (t : List ℕ) (n j : ℕ) → j < n → row (take (81 * n) t) j ≡ row t j
unfolding row
part_row t n j h = ap line_of (part_piece t n j h)

down_same : (L M : ℕ → Line) (n : ℕ) → ((j : ℕ) → j < n → L j ≡ M j) → down L n ≡ down M n
unfolding down
down_same L M zero e = refl
down_same L M (suc n) e = ap₂ ◌∷◌ (e n (omega arith)) (down_same L M n (λ j h. e j (omega arith)))

state_same : (L M : ℕ → Line) (n : ℕ) → ((j : ℕ) → j < n → L j ≡ M j) → state_at L n ≡ state_at M n
unfolding state_at
state_same L M zero e = refl
state_same L M (suc n) e = ap₂ next_of (state_same L M n (λ j h. e j (omega arith))) (e n (omega arith))

good_same : (L M : ℕ → Line) (n : ℕ) → ((j : ℕ) → j < n → L j ≡ M j) → GoodTo M n → GoodTo L n
good_same L M n e g j h =
    rw (down_same L M j (λ k l. e k (omega arith)), state_same L M j (λ k l. e k (omega arith)), e j h) (g j h)

finish_good : (s : State) → ((finish_of s).good ≡ s.lines) × (((finish_of s).number ≡ 0) ⊎ ((finish_of s).number ≡ 12))
unfolding finish_of refused_of
finish_good s = picks (λ (v : Verdict). (v.good ≡ s.lines) × ((v.number ≡ 0) ⊎ (v.number ≡ 12))) (eqb s.place end_place) _ _ (λ _. (refl, inl refl)) (λ _. (refl, inr refl))

-- a text cut short after n of its good lines has no offence: it is accepted, or over before END
pub prefix_good : (t : List ℕ) (n : ℕ) → GoodTo (row t) n
    → ((check_of (take (81 * n) t)).good ≡ n) × (((check_of (take (81 * n) t)).number ≡ 0) ⊎ ((check_of (take (81 * n) t)).number ≡ 12))
unfolding check_lines
prefix_good t n g =
    let u : List ℕ = take (81 * n) t in
    let short : length u ≤ 81 * n = simp length-take (omega arith) in
    let G : GoodTo (row u) n = good_same (row u) (row t) n (part_row t n) g in
    let e = unrolled u n G ∙ ap (λ (ls : List (List ℕ)). check_lines (down (row u) n) (state_at (row u) n) (map line_of ls)) (cut_done u n short) in
    let f = finish_good (state_at (row u) n) in
    rw e (f.0 ∙ (reached u n G).lines, f.1)

-- ---- all of it, of an answer of the check
pub consequences : (t : List ℕ) → Consequences t
consequences t =
    let A = answered t in
    record {
      serials_rise = rising t (check_of t).good A.good_to;
      atoms_differ = differ t (check_of t).good A.good_to;
      models_number = numbered t (check_of t).good A.good_to;
      models_hold = held t (check_of t).good A.good_to;
      conects_name = λ i c. conect_names t (check_of t).good i c A.good_to;
      masters_count = λ i m. master_totals t (check_of t).good i m A.good_to;
      counts_true = A.counts ∙ counted t (check_of t).good A.good_to;
      ends = λ z. let x = A.granted z in let y = end_last t (check_of t).good A.good_to x.2 in (x.1, y.0, y.1);
      prefixes = λ n h. prefix_good t n (λ j l. A.good_to j (omega arith));
      column_read = λ e. column_read t (check_of t).good (check_of t).column (A.six e) (A.column ∙ ap (λ (n : ℕ). column_of n (row t (check_of t).good)) e);
      column_none = λ z. A.column ∙ no_column (check_of t).number (row t (check_of t).good) z;
      offends = A.refused;
    }
