-- Each answer of the functions over a table, from the tests that the code makes.
-- Assumes nothing.
use Prim.Native.Nat.{ℕ, ◌+◌, ◌*◌, ◌-◌, ◌≤◌, ◌<◌}
use mathlib.Core.List.{List, [], ◌∷◌, ◌++◌, map}
use mathlib.Core.Bool.{Bool, true, false, true≢false}
use mathlib.Core.Path.{◌≡◌, refl, sym, ◌∙◌, ap}
use native.Mathlib.Omega.{arith}
use borrow.Author.Tests.{eq-eqb, ne_eqb, lt-ltb, le-ltb}
use lib.ListN.{length, take, drop, length-map, length-take}
use Rattle.ascii.specs.Tests.{pick, both, either, alike}
use Rattle.std.specs.Prelude.{Result, Ok, Err}
use Rattle.std.specs.Result.{IsErrAnd}
use Rattle.refusals.specs.declared.Refusal.{Refusal}
use Rattle.refusals.specs.Numbers.{number_of, number_in}
use Rattle.refusals.proofs.Positive.{number_positive}
use Rattle.fields.specs.declared.FragmentNumber.{FragmentNumber}
use Rattle.pieces.specs.declared.Line.{Line}
use Rattle.pieces.specs.Pieces.{line_of}
use Rattle.facets.specs.Facets.{is_fence}
use Rattle.places.specs.declared.Counts.{Counts}
use Rattle.places.specs.Counts.{no_counts}
use Rattle.rows.specs.Text.{cut}
use Rattle.gate.specs.Gate.{check_of}
use Rattle.slots.specs.declared.Slot.{Slot}
use Rattle.slots.specs.Slots.{no_model}
use Rattle.fragments.specs.declared.Tail.{Tail}
use Rattle.fragments.specs.Fragments.{tail_of, mark_of, marked, marked_by, numbered}
use Rattle.table.specs.Table.{told, count_in, over, lines_from, loaded_of, load_of, fits_from, one_of, belongs, table_of, mark_byte, order_of, fragments_of, mark_at, arrange_of}
use Rattle.table.specs.Deal.{stays, past_next, counted, written, output_of, put_of}
use Rattle.table.proofs.Joined.{cut_size}
use Rattle.table.proofs.Marks.{marked_size}
use Rattle.table.proofs.Ready.{ready}
use Rattle.table.proofs.AllMarks.{marked_by_size}
use Rattle.table.proofs.Numbers.{numbered_size}
use Rattle.table.proofs.Few.{few_fragments}
use Rattle.table.proofs.Shares.{shares, fence_stays, bounds_of, shares_both, bytes_size}
use Rattle.store.specs.declared.Findings.{Findings}
use Rattle.store.specs.declared.Held.{Held}
use Rattle.store.specs.Judged.{Surveyed, Belongs, kept_from, fences_from, share_of}

-- ---- what `?` hands on
pub never_zero : (r : Refusal) → number_of r ≡ 0 → ⊥
never_zero r e = omega (arith, number_positive r)

pub told_on : {A : Type 0} (r : Result ℕ Refusal) (e : Refusal) (xs : List A) → IsErrAnd r (λ y. y ≡ e) → told (number_in r) (count_in r) xs ≡ told (number_of e) 0 xs
told_on (Ok n) e xs h = absurd h
told_on (Err y) e xs h = ap (λ (x : Refusal). told (number_of x) 0 xs) h

pub take_size : (xs : List Slot) (n : ℕ) → n ≤ length xs → n ≡ length (take n xs)
take_size xs n h = simp length-take (omega arith)

module _ (t : List ℕ) (xs : List Slot) (n : ℕ) (en : n ≡ (check_of t).number) where
  pub load_bad : (n ≡ 0 → ⊥) → told n 0 xs ≡ load_of t xs
  unfolding load_of
  load_bad h = rw (← en, ne_eqb n 0 h)

  pub table_bad : (n ≡ 0 → ⊥) → n ≡ table_of t xs
  unfolding table_of
  table_bad h = rw (← en, ne_eqb n 0 h)

  module _ (z : n ≡ 0) (m : ℕ) (em : m ≡ length (loaded_of t)) where
    pub load_short : length xs < m → told 13 0 xs ≡ load_of t xs
    unfolding load_of
    load_short h = rw (← en, eq-eqb n 0 z, ← em, lt-ltb (length xs) m h)

    pub load_good : (ys : List Slot) → m ≤ length xs → ys ≡ loaded_of t ++ drop (length (loaded_of t)) xs → told 0 m ys ≡ load_of t xs
    unfolding load_of
    load_good ys h e = rw (e, ← en, eq-eqb n 0 z, ← em, le-ltb (length xs) m h)

    pub table_short : length xs < m → 13 ≡ table_of t xs
    unfolding table_of
    table_short h = rw (← en, eq-eqb n 0 z, ← em, lt-ltb (length xs) m h)

    module _ (h : m ≤ length xs) (f : Bool) (ef : f ≡ fits_from xs 0 no_model (lines_from t 0)) where
      pub table_other : f ≡ false → 18 ≡ table_of t xs
      unfolding table_of belongs both
      table_other e = rw (← en, eq-eqb n 0 z, ← em, le-ltb (length xs) m h, ← ef, e)

      pub table_torn : f ≡ true → (u : Tail) → u ≡ tail_of (take m xs) → u.agree ≡ false → 18 ≡ table_of t xs
      unfolding table_of belongs both
      table_torn e u q a = rw (← en, eq-eqb n 0 z, ← em, le-ltb (length xs) m h, ← ef, e, ← q, a)

      pub table_good : f ≡ true → (u : Tail) → u ≡ tail_of (take m xs) → u.agree ≡ true → 0 ≡ table_of t xs
      unfolding table_of belongs both
      table_good e u q a = rw (← en, eq-eqb n 0 z, ← em, le-ltb (length xs) m h, ← ef, e, ← q, a)

-- what a table that belongs to a text is known to be
pub held_good : (t : List ℕ) (xs : List Slot) (v : Findings) → Surveyed t xs v → v.fits ≡ true → v.need ≤ length xs → (u : Tail) → u ≡ tail_of (take v.need xs)
    → u.count ≤ length (take v.need xs) → Belongs t xs (record { need = v.need; fragments = u.count; kept = v.kept; fences = v.fences; lines = v.lines })
held_good t xs v S f h u q c =
    let s : length (take v.need xs) ≡ v.need = sym (take_size xs v.need h) in
    record {
      need = S.need;
      room = h;
      fragments = ap (λ (w : Tail). w.count) q ∙ ap (λ (m : ℕ). (tail_of (take m xs)).count) S.need;
      few = omega arith;
      lines = S.lines;
      fences = S.fences;
      kept = S.kept f h;
      rises = S.rises f h;
    }

module _ (t : List ℕ) (xs : List Slot) (f : FragmentNumber) (aside : Bool) (k : ℕ) (ek : k ≡ table_of t xs) where
  pub order_bad : (k ≡ 0 → ⊥) → told k 0 xs ≡ order_of t xs f aside
  unfolding order_of
  order_bad h = rw (← ek, ne_eqb k 0 h)

  module _ (z : k ≡ 0) (d : Held) (B : Belongs t xs d) where
    pub order_zero : f.0 ≡ 0 → told 15 0 xs ≡ order_of t xs f aside
    unfolding order_of either
    order_zero h = rw (← ek, eq-eqb k 0 z, eq-eqb f.0 0 h)

    pub order_past : (f.0 ≡ 0 → ⊥) → d.fragments < f.0 → told 15 0 xs ≡ order_of t xs f aside
    unfolding order_of either
    order_past h g = rw (← ek, eq-eqb k 0 z, ne_eqb f.0 0 h, ← B.fragments, lt-ltb d.fragments f.0 g)

    module _ (h : f.0 ≡ 0 → ⊥) (g : f.0 ≤ d.fragments) (m : ℕ) (em : m ≡ mark_byte aside) (s : ℕ) (es : s ≡ mark_of (d.fragments + 1 - f.0) (take d.need xs)) where
      pub order_there : s ≡ m → told 16 0 xs ≡ order_of t xs f aside
      unfolding order_of either
      order_there q = rw (← ek, eq-eqb k 0 z, ne_eqb f.0 0 h, ← B.fragments, le-ltb d.fragments f.0 g, ← B.need, ← es, ← em, eq-eqb s m q)

      pub order_done : (s ≡ m → ⊥) → (ys : List Slot) → ys ≡ marked (d.fragments + 1 - f.0) m (take d.need xs) ++ drop d.need xs → told 0 0 ys ≡ order_of t xs f aside
      unfolding order_of either
      order_done q ys ey =
          let size : length (marked (d.fragments + 1 - f.0) m (take d.need xs)) ≡ d.need = marked_size (d.fragments + 1 - f.0) m (take d.need xs) ∙ sym (take_size xs d.need B.room) in
          rw (← ek, eq-eqb k 0 z, ne_eqb f.0 0 h, ← B.fragments, le-ltb d.fragments f.0 g, ← B.need, ← es, ← em, ne_eqb s m q, size, ey)

-- ---- all fragments at once
held_count : (t : List ℕ) (xs : List Slot) (d : Held) → Belongs t xs d → (tail_of (take d.need xs)).count ≡ d.fragments
held_count t xs d B = ap (λ (n : ℕ). (tail_of (take n xs)).count) B.need ∙ sym B.fragments

-- all fragments have numbers of 32 bits
pub numbers_fit : (t : List ℕ) (xs : List Slot) (k : ℕ) → k ≡ table_of t xs → k ≡ 0 → (d : Held) → Belongs t xs d
    → ((tail_of (take d.need xs)).count ≤ d.fragments) × (d.fragments < 4294967295)
numbers_fit t xs k ek z d B = (omega (arith, held_count t xs d B), omega (arith, few_fragments t xs (ready t xs (sym ek ∙ z)), B.fragments))

module _ (t : List ℕ) (xs : List Slot) (bs : List ℕ) (k : ℕ) (ek : k ≡ table_of t xs) where
  pub arrange_bad : (k ≡ 0 → ⊥) → told k 0 xs ≡ arrange_of t xs bs
  unfolding arrange_of
  arrange_bad h = rw (← ek, ne_eqb k 0 h)

  module _ (z : k ≡ 0) (d : Held) (B : Belongs t xs d) where
    pub arrange_other : (length bs ≡ d.fragments → ⊥) → told 15 0 xs ≡ arrange_of t xs bs
    unfolding arrange_of
    arrange_other h = rw (← ek, eq-eqb k 0 z, ← B.fragments, ne_eqb (length bs) d.fragments h)

    pub arrange_count : length bs ≡ d.fragments → (tail_of (take d.need xs)).count ≡ length bs
    arrange_count h = held_count t xs d B ∙ sym h

    pub arrange_done : length bs ≡ d.fragments → (ys : List Slot) → ys ≡ marked_by (mark_at bs) (take d.need xs) ++ drop d.need xs → told 0 0 ys ≡ arrange_of t xs bs
    unfolding arrange_of
    arrange_done h ys ey =
        let size : length (marked_by (mark_at bs) (take d.need xs)) ≡ d.need = marked_by_size (mark_at bs) (take d.need xs) ∙ sym (take_size xs d.need B.room) in
        rw (← ek, eq-eqb k 0 z, ← B.fragments, eq-eqb (length bs) d.fragments h, ← B.need, size, ey)

module _ (t : List ℕ) (xs : List Slot) (o : List ℕ) (k : ℕ) (ek : k ≡ table_of t xs) where
  pub numbers_bad : (k ≡ 0 → ⊥) → told k 0 o ≡ fragments_of t xs o
  unfolding fragments_of
  numbers_bad h = rw (← ek, ne_eqb k 0 h)

  module _ (z : k ≡ 0) (d : Held) (B : Belongs t xs d) where
    pub numbers_short : length o < d.need → told 17 0 o ≡ fragments_of t xs o
    unfolding fragments_of
    numbers_short h = rw (← ek, eq-eqb k 0 z, ← B.need, lt-ltb (length o) d.need h)

    pub numbers_done : d.need ≤ length o → (ys : List ℕ) → ys ≡ numbered d.fragments (take d.need xs) ++ drop (length (take d.need xs)) o → told 0 d.need ys ≡ fragments_of t xs o
    unfolding fragments_of
    numbers_done h ys ey =
        let size : length (numbered d.fragments (take d.need xs)) ≡ length (take d.need xs) = numbered_size d.fragments (take d.need xs) in
        rw (← ek, eq-eqb k 0 z, ← B.need, le-ltb (length o) d.need h, ← B.fragments, size, ey)

-- ---- saving and the tray
-- a line that stays is one more piece of the saved entry
kept_shares : (xs : List Slot) (k : ℕ) (past : Bool) (q : Counts) (ps : List (List ℕ)) → length (shares true xs k past q ps) ≡ kept_from xs k (map line_of ps)
unfolding shares kept_from either
kept_shares xs k past q [] = refl
kept_shares xs k past q (p ∷ ps) =
    let stay : Bool = stays xs k (line_of p) in
    go stay refl (is_fence (line_of p)) refl _ _ (kept_shares xs (k + one_of (line_of p)) (past_next past (line_of p)) (counted stay past q (line_of p)) ps)
  where
    go : (b : Bool) → stays xs k (line_of p) ≡ b → (f : Bool) → is_fence (line_of p) ≡ f → (us : List (List ℕ)) (n : ℕ) → length us ≡ n
        → length (pick (either f (alike true b)) (written q p ∷ us) us) ≡ pick b 1 0 + n
    go true e true f us n w = omega arith
    go true e false f us n w = omega arith
    go false e true f us n w = absurd (true≢false (sym (fence_stays xs k (line_of p) f) ∙ e))
    go false e false f us n w = omega arith

-- a MODEL or ENDMDL line stays
bounds_fences : (ps : List (List ℕ)) → bounds_of ps ≡ fences_from (map line_of ps)
unfolding bounds_of fences_from
bounds_fences [] = refl
bounds_fences (p ∷ ps) = ap (λ (n : ℕ). pick (is_fence (line_of p)) 1 0 + n) (bounds_fences ps)

fences_stay : (xs : List Slot) (k : ℕ) (ls : List Line) → fences_from ls ≤ kept_from xs k ls
unfolding fences_from kept_from
fences_stay xs k [] = omega arith
fences_stay xs k (l ∷ ls) = go (fences_stay xs (k + one_of l) ls) (is_fence l) refl (stays xs k l) refl
  where
    go : fences_from ls ≤ kept_from xs (k + one_of l) ls → (f : Bool) → is_fence l ≡ f → (b : Bool) → stays xs k l ≡ b → pick f 1 0 + fences_from ls ≤ pick b 1 0 + kept_from xs (k + one_of l) ls
    go rest true f true b = omega arith
    go rest true f false b = absurd (true≢false (sym (fence_stays xs k l f) ∙ b))
    go rest false f true b = omega arith
    go rest false f false b = omega arith

kept_most : (xs : List Slot) (k : ℕ) (ls : List Line) → kept_from xs k ls ≤ length ls
unfolding kept_from
kept_most xs k [] = omega arith
kept_most xs k (l ∷ ls) = go (stays xs k l) (kept_most xs (k + one_of l) ls)
  where
    go : (b : Bool) → kept_from xs (k + one_of l) ls ≤ length ls → pick b 1 0 + kept_from xs (k + one_of l) ls ≤ length (l ∷ ls)
    go true e = omega arith
    go false e = omega arith

module _ (t : List ℕ) (xs : List Slot) (h : Held) (B : Belongs t xs h) (good : (check_of t).number ≡ 0) where
  kept_lines : length (shares true xs 0 false no_counts (cut t)) ≡ h.kept
  unfolding lines_from
  kept_lines = kept_shares xs 0 false no_counts (cut t) ∙ sym B.kept

  all_lines : length (shares true xs 0 false no_counts (cut t)) + length (shares false xs 0 false no_counts (cut t)) ≡ h.lines + h.fences
  unfolding lines_from
  all_lines = shares_both xs 0 false no_counts (cut t) ∙ omega (arith, cut_size h.lines t B.lines, bounds_fences (cut t), B.fences)

  fences_few : h.fences ≤ h.kept
  fences_few = omega (arith, B.fences, B.kept, fences_stay xs 0 (lines_from t 0))

  pub kept_few : (h.kept ≤ h.lines) × (h.fences ≤ h.kept)
  unfolding lines_from
  kept_few = (omega (arith, B.kept, kept_most xs 0 (lines_from t 0), length-map (cut t) line_of, cut_size h.lines t B.lines), fences_few)

  pub size_dealt : (saving : Bool) → 81 * share_of h saving ≡ length (output_of saving t xs)
  size_dealt true = sym (bytes_size true t xs good ∙ ap (λ (n : ℕ). 81 * n) kept_lines)
  size_dealt false =
      let n : length (shares false xs 0 false no_counts (cut t)) ≡ h.lines - h.kept + h.fences = omega (arith, kept_lines, all_lines, kept_few.0) in
      sym (bytes_size false t xs good ∙ ap (λ (n : ℕ). 81 * n) n)

module _ (saving : Bool) (t : List ℕ) (xs : List Slot) (o : List ℕ) (k : ℕ) (ek : k ≡ table_of t xs) where
  pub put_bad : (k ≡ 0 → ⊥) → told k 0 o ≡ put_of saving t xs o
  unfolding put_of
  put_bad h = rw (← ek, ne_eqb k 0 h)

  module _ (z : k ≡ 0) (n : ℕ) (en : n ≡ length (output_of saving t xs)) where
    pub put_short : length o < n → told 17 0 o ≡ put_of saving t xs o
    unfolding put_of
    put_short h = rw (← ek, eq-eqb k 0 z, ← en, lt-ltb (length o) n h)

    pub put_good : n ≤ length o → (ys : List ℕ) → ys ≡ over (output_of saving t xs) o → told 0 n ys ≡ put_of saving t xs o
    unfolding put_of
    put_good h ys ey = rw (ey, ← ek, eq-eqb k 0 z, ← en, le-ltb (length o) n h)
