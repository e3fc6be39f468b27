-- Models in plain words: they are numbered 1, 2, 3, .., and hold every coordinate line where there are any.
-- Assumes nothing.
use Rattle.std.proofs.Common.{Option, Some, None}
use Prim.Native.Nat.{ℕ, zero, suc, ◌+◌, ◌≤◌, ◌<◌}
use mathlib.Core.List.{List}
use mathlib.Core.Bool.{Bool, true, false, not, false≢true}
use mathlib.Core.Path.{◌≡◌, refl, sym, ◌∙◌, ap}
use mathlib.Core.Logic.{◌⊎◌, inl, inr, ⊎_elim}
use native.Mathlib.Omega.{arith}
use borrow.Author.Count.{below_more}
use borrow.Author.Tests.{eqb-true, eq-eqb, ltb-true, ltb-false}
use lib.Dec.{eqb, ltb}
use Rattle.ascii.specs.Tests.{pick, either, both}
use Rattle.ascii.proofs.Choice.{not_false}
use Rattle.transform.specs.Transforms.{transform_kind}
use Rattle.kinds.specs.declared.Kind.TheVariants as kind
use Rattle.line.specs.declared.Record.{Record}
use Rattle.line.specs.declared.Record.TheVariants as rec
use Rattle.pieces.specs.declared.Line.{Line}
use Rattle.pieces.specs.declared.Line.TheVariants.{Bad, Wrong, Carried, Typed}
use Rattle.places.specs.declared.Models.{Models}
use Rattle.places.proofs.Laws.{place_high}
use Rattle.places.specs.Places.{coordinate_place, fence_bad}
use Rattle.rules.specs.declared.Looked.{Looked}
use Rattle.rules.specs.declared.State.{State}
use Rattle.facets.specs.declared.Fence.{Fence}
use Rattle.facets.specs.declared.Fence.TheVariants.{Opens, Shuts}
use Rattle.facets.specs.Facets.{fence_of, fence_in, is_coord}
use Rattle.rules.specs.Rules.{model_bad, models_next, judge_of, next_of, carried_next, typed_next, start_of}
use Rattle.rules.proofs.Laws.{Good, judge_typed, judge_carried, judge_bad, judge_wrong}
use Rattle.rows.specs.Text.{row}
use Rattle.serials.specs.Search.{Before}
use Rattle.serials.proofs.Block.{before_kind}
use Rattle.gate.specs.Promise.{is_open, models_to, open_after, open_at}
use Rattle.gate.proofs.Runs.{state_at, GoodTo}

-- ---- what a good line leaves: the number of models, and whether one is open
fence_number : (m : Models) (e : Option Fence) → model_bad m e ≡ false → (models_next m e).number ≡ pick (is_open e) (m.number + 1) m.number
fence_number m (Some (Opens n)) b = eqb-true n (m.number + 1) (not_false _ b)
fence_number m (Some Shuts) b = refl
fence_number m None b = refl

fence_open : (m : Models) (e : Option Fence) → (models_next m e).inside ≡ open_after m.inside e
fence_open m (Some (Opens n)) = refl
fence_open m (Some Shuts) = refl
fence_open m None = refl

models_next_lem : (s : State) (look : Looked) (l : Line) → judge_of look s l ≡ 0
    → ((next_of s l).models.number ≡ pick (is_open (fence_in l)) (s.models.number + 1) s.models.number) × ((next_of s l).models.inside ≡ open_after s.models.inside (fence_in l))
unfolding next_of carried_next typed_next judge_of
models_next_lem s look (Bad n) j = absurd (judge_bad look s n j)
models_next_lem s look (Wrong k c) j = absurd (judge_wrong look s k c j)
models_next_lem s look (Carried k) j = (refl, refl)
models_next_lem s look (Typed r) j = (fence_number s.models (fence_of r) (judge_typed look s r j).model, fence_open s.models (fence_of r))

models_so : (t : List ℕ) (n : ℕ) → GoodTo (row t) n → ((state_at (row t) n).models.number ≡ models_to t n) × ((state_at (row t) n).models.inside ≡ open_at t n)
unfolding state_at models_to open_at start_of
models_so t zero g = (refl, refl)
models_so t (suc n) g =
    let e = models_next_lem (state_at (row t) n) _ (row t n) (g n (omega arith)) in
    let f = models_so t n (λ j h. g j (omega arith)) in
    (e.0 ∙ ap (λ (m : ℕ). pick (is_open (fence_in (row t n))) (m + 1) m) f.0, e.1 ∙ ap (λ (b : Bool). open_after b (fence_in (row t n))) f.1)

-- ---- numbered 1, 2, 3, ..
open_number : (s : State) (look : Looked) (l : Line) → judge_of look s l ≡ 0 → (n : ℕ) → fence_in l ≡ Some (Opens n) → n ≡ s.models.number + 1
unfolding judge_of
open_number s look (Bad m) j n e = absurd (false≢true (ap is_open e))
open_number s look (Wrong k c) j n e = absurd (false≢true (ap is_open e))
open_number s look (Carried k) j n e = absurd (false≢true (ap is_open e))
open_number s look (Typed r) j n e =
    let b : model_bad s.models (Some (Opens n)) ≡ false = rw e at (judge_typed look s r j).model in
    eqb-true n (s.models.number + 1) (not_false _ b)

pub numbered : (t : List ℕ) (n : ℕ) → GoodTo (row t) n → (i m : ℕ) → i < n → fence_in (row t i) ≡ Some (Opens m) → m ≡ models_to t i + 1
numbered t n g i m h e =
    open_number (state_at (row t) i) _ (row t i) (g i h) m e ∙ ap (λ (x : ℕ). x + 1) (models_so t i (λ j k. g j (omega arith))).0

-- ---- no models so far: no coordinate line either, or it is too late for a MODEL line
record Without (t : List ℕ) (n : ℕ) (s : State) : Type 0 where
  none : models_to t n ≡ 0
  shut : s.models.inside ≡ false
  first : s.models.past ≡ false
  reach : ((j : ℕ) → j < n → is_coord (row t j) ≡ false) ⊎ (Before s.place → ⊥)

-- models so far, with all coordinate lines in them
record Within (t : List ℕ) (n : ℕ) (s : State) : Type 0 where
  held : (j : ℕ) → j < n → is_coord (row t j) ≡ true → open_at t j ≡ true
  some : either s.models.inside s.models.past ≡ true

-- a line that is no MODEL or ENDMDL line
without_on : (t : List ℕ) (n : ℕ) (s u : State) → Without t n s → u.models ≡ s.models → is_open (fence_in (row t n)) ≡ false
    → ((((j : ℕ) → j < n → is_coord (row t j) ≡ false) ⊎ (Before s.place → ⊥)) → ((j : ℕ) → j < suc n → is_coord (row t j) ≡ false) ⊎ (Before u.place → ⊥))
    → Without t (suc n) u
unfolding models_to
without_on t n s u W e o f = record { none = rw (o, W.none); shut = rw e W.shut; first = rw e W.first; reach = f W.reach }

no_more : (t : List ℕ) (n : ℕ) → ((j : ℕ) → j < n → is_coord (row t j) ≡ false) → is_coord (row t n) ≡ false → (j : ℕ) → j < suc n → is_coord (row t j) ≡ false
no_more t n h c j l = below_more (λ (i : ℕ). is_coord (row t i) ≡ false) n h c j (omega arith)

-- of a kind that has its own place, and is no coordinate line
passed : (t : List ℕ) (n : ℕ) (p q : ℕ) → is_coord (row t n) ≡ false → (Before q → Before p)
    → ((j : ℕ) → j < n → is_coord (row t j) ≡ false) ⊎ (Before p → ⊥) → ((j : ℕ) → j < suc n → is_coord (row t j) ≡ false) ⊎ (Before q → ⊥)
passed t n p q c f (inl h) = inl (no_more t n h c)
passed t n p q c f (inr h) = inr (λ b. h (f b))

late : Before coordinate_place → ⊥
late b = ⊎_elim (λ (x : 18 < 18). omega arith) (λ (x : 21 < 18). omega arith) b

-- once a coordinate line stands in no model a MODEL line is too late
too_late : (s : State) → s.models.inside ≡ false → s.models.past ≡ false → s.place ≤ 18 → (Before s.place → ⊥) → fence_bad s.place s.models kind.Model ≡ true
unfolding fence_bad either both
too_late s i p h x = go (ltb s.place 18) refl
  where
    go : (b : Bool) → ltb s.place 18 ≡ b → either s.models.inside (both (eqb s.place 18) (not s.models.past)) ≡ true
    go true u = absurd (x (inl (ltb-true _ _ u)))
    go false u = let q : s.place ≡ 18 = omega (arith, ltb-false s.place 18 u) in rw (i, p, eq-eqb s.place 18 q)

-- MODEL comes before every coordinate line
opened : (t : List ℕ) (n : ℕ) (s : State) → Without t n s → fence_bad s.place s.models kind.Model ≡ false → s.place ≤ 18
    → (((j : ℕ) → j < n → is_coord (row t j) ≡ false) ⊎ (Before s.place → ⊥)) → (j : ℕ) → j < n → is_coord (row t j) ≡ false
opened t n s W e h (inl x) = x
opened t n s W e h (inr x) = absurd (false≢true (sym e ∙ too_late s W.shut W.first h x))

never_shut : (p : ℕ) (m : Models) → m.inside ≡ false → fence_bad p m kind.Endmdl ≡ false → ⊥
unfolding fence_bad
never_shut p m i e = false≢true (sym (rw i at e))

without_typed : (t : List ℕ) (n : ℕ) (s : State) (look : Looked) (r : Record) → Without t n s → row t n ≡ Typed r → Good look s r
    → Without t (suc n) (typed_next s r) ⊎ Within t (suc n) (typed_next s r)
unfolding typed_next either
without_typed t n s look (rec.Coordinate true a) W e g = inl (without_on t n s _ W refl (rw e) (λ _. inr late))
without_typed t n s look (rec.Coordinate false a) W e g = inl (without_on t n s _ W refl (rw e) (λ _. inr late))
without_typed t n s look (rec.Ter x) W e g = inl (without_on t n s _ W refl (rw e) (λ _. inr late))
without_typed t n s look (rec.Helix x) W e g = inl (without_on t n s _ W refl (rw e) (passed t n _ _ (rw e) (before_kind kind.Helix s.place g.place)))
without_typed t n s look (rec.Sheet x) W e g = inl (without_on t n s _ W refl (rw e) (passed t n _ _ (rw e) (before_kind kind.Sheet s.place g.place)))
without_typed t n s look (rec.Conect x) W e g = inl (without_on t n s _ W refl (rw e) (passed t n _ _ (rw e) (before_kind kind.Conect s.place g.place)))
without_typed t n s look (rec.Master x) W e g = inl (without_on t n s _ W refl (rw e) (passed t n _ _ (rw e) (before_kind kind.Master s.place g.place)))
without_typed t n s look rec.End W e g = inl (without_on t n s _ W refl (rw e) (passed t n _ _ (rw e) (before_kind kind.End s.place g.place)))
without_typed t n s look (rec.Model m) W e g =
    let c : (j : ℕ) → j < suc n → is_coord (row t j) ≡ false = no_more t n (opened t n s W g.fence (place_high s.place kind.Model g.place) W.reach) (rw e) in
    inr (record { held = λ j h k. absurd (false≢true (sym (c j h) ∙ k)); some = refl })
without_typed t n s look (rec.Cell c) W e g = inl (without_on t n s _ W refl (rw e) (passed t n _ _ (rw e) (before_kind kind.Cryst1 s.place g.place)))
without_typed t n s look (rec.Transform scale axis x) W e g =
    inl (without_on t n s _ W refl (rw e) (passed t n _ _ (rw e) (before_kind (transform_kind scale axis) s.place g.place)))
without_typed t n s look rec.Endmdl W e g = absurd (never_shut s.place s.models W.shut g.fence)

-- ---- a coordinate line that stands in a model
within_on : (t : List ℕ) (n : ℕ) (s u : State) → Within t n s → either u.models.inside u.models.past ≡ true → (is_coord (row t n) ≡ true → open_at t n ≡ true) → Within t (suc n) u
within_on t n s u W e f = record { held = λ j h. below_more (λ (i : ℕ). is_coord (row t i) ≡ true → open_at t i ≡ true) n W.held f j (omega arith); some = e }

in_model : (p : ℕ) (m : Models) (inside past : Bool) → both past (not inside) ≡ false → either inside past ≡ true → inside ≡ true
unfolding both either
in_model p m true past e h = refl
in_model p m false true e h = sym e
in_model p m false false e h = h

fence_some : (m : Models) (e : Option Fence) → either m.inside m.past ≡ true → either (models_next m e).inside (models_next m e).past ≡ true
unfolding either
fence_some m (Some (Opens n)) h = refl
fence_some m (Some Shuts) h = refl
fence_some m None h = h

slot_open : (s : State) (look : Looked) (r : Record) → Good look s r → is_coord (Typed r) ≡ true → either s.models.inside s.models.past ≡ true → s.models.inside ≡ true
unfolding fence_bad
slot_open s look (rec.Coordinate true a) g c h = in_model s.place s.models _ _ g.fence h
slot_open s look (rec.Coordinate false a) g c h = in_model s.place s.models _ _ g.fence h
slot_open s look (rec.Ter x) g c h = in_model s.place s.models _ _ g.fence h
slot_open s look (rec.Helix x) g c h = absurd (false≢true c)
slot_open s look (rec.Sheet x) g c h = absurd (false≢true c)
slot_open s look (rec.Conect x) g c h = absurd (false≢true c)
slot_open s look (rec.Master x) g c h = absurd (false≢true c)
slot_open s look rec.End g c h = absurd (false≢true c)
slot_open s look (rec.Model x) g c h = absurd (false≢true c)
slot_open s look rec.Endmdl g c h = absurd (false≢true c)
slot_open s look (rec.Cell x) g c h = absurd (false≢true c)
slot_open s look (rec.Transform scale axis x) g c h = absurd (false≢true c)

-- ---- a good line more
more : (t : List ℕ) (n : ℕ) (s : State) (look : Looked) → s.models.inside ≡ open_at t n → (l : Line) → row t n ≡ l → judge_of look s l ≡ 0
    → Without t n s ⊎ Within t n s → Without t (suc n) (next_of s l) ⊎ Within t (suc n) (next_of s l)
unfolding next_of carried_next typed_next judge_of
more t n s look o (Bad x) e j W = absurd (judge_bad look s x j)
more t n s look o (Wrong k c) e j W = absurd (judge_wrong look s k c j)
more t n s look o (Carried k) e j (inl W) = inl (without_on t n s _ W refl (rw e) (passed t n _ _ (rw e) (before_kind k s.place (judge_carried look s k j).0)))
more t n s look o (Carried k) e j (inr W) = inr (within_on t n s _ W W.some (λ c. absurd (false≢true (rw e at c))))
more t n s look o (Typed r) e j (inl W) = without_typed t n s look r W e (judge_typed look s r j)
more t n s look o (Typed r) e j (inr W) =
    inr (within_on t n s _ W (fence_some s.models (fence_of r) W.some) (λ c. sym o ∙ slot_open s look r (judge_typed look s r j) (rw e at c) W.some))

parted : (t : List ℕ) (n : ℕ) → GoodTo (row t) n → Without t n (state_at (row t) n) ⊎ Within t n (state_at (row t) n)
unfolding state_at models_to start_of
parted t zero g = inl (record { none = refl; shut = refl; first = refl; reach = inl (λ j h. absurd (omega arith)) })
parted t (suc n) g =
    let G : GoodTo (row t) n = λ j h. g j (omega arith) in
    more t n (state_at (row t) n) _ (models_so t n G).1 (row t n) refl (g n (omega arith)) (parted t n G)

pub held : (t : List ℕ) (n : ℕ) → GoodTo (row t) n → (models_to t n ≡ 0) ⊎ ((i : ℕ) → i < n → is_coord (row t i) ≡ true → open_at t i ≡ true)
held t n g = ⊎_elim (λ (W : Without t n (state_at (row t) n)). inl W.none) (λ (W : Within t n (state_at (row t) n)). inr W.held) (parted t n g)
