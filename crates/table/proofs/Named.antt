-- A CONECT line that stays names only atoms whose lines were kept, and no line that is kept was not seen.
-- Assumes nothing.
use Rattle.std.proofs.Common.{Option, Some, None}
use Prim.Native.Nat.{ℕ, ◌+◌, ◌<◌}
use mathlib.Core.List.{List, [], ◌∷◌, ◌++◌}
use mathlib.Core.Bool.{Bool, true, false, not}
use mathlib.Core.Logic.{◌⊎◌, inl, inr, ⊎_elim}
use mathlib.Core.Path.{◌≡◌, refl, sym, ◌∙◌}
use native.Mathlib.Numerals.{add-one}
use borrow.Author.Tests.{eqb-true, eq-eqb}
use lib.Dec.{eqb}
use lib.ListN.{length, take, get_or}
use lib.Seq.{take-suc}
use Rattle.ascii.specs.Tests.{both, either}
use Rattle.ascii.proofs.Choice.{never, both_split, either_split, either_left, either_right, either_none}
use Rattle.coordinate.specs.declared.Identity.{Identity}
use Rattle.conect.specs.declared.Conect.{Conect}
use Rattle.pieces.specs.declared.Line.{Line}
use Rattle.facets.specs.declared.Spot.{Spot}
use Rattle.facets.specs.declared.Spot.TheVariants.{Site, Close}
use Rattle.facets.specs.Facets.{spot_in, is_spot, is_coord, is_fence}
use Rattle.serials.specs.Known.{is_atom, is_site, some_of, front, named, partner_known, bond_known}
use Rattle.serials.specs.Search.{spot_serial}
use Rattle.twins.specs.Twins.{is_twin}
use Rattle.slots.specs.declared.Slot.{Slot}
use Rattle.slots.specs.Slots.{mark_aside, no_slot}
use Rattle.fragments.specs.Fragments.{is_ter}
use Rattle.serials.proofs.Models.{coord_off}
use Rattle.table.specs.Deal.{is_in, stands_in, partner_in, bond_in}
use Rattle.table.proofs.Paired.{spot_closes, in_slot, Beside}

-- a test that fails where its opposite holds
not_true : (b : Bool) → not b ≡ true → b ≡ false
not_true true e = never e
not_true false e = refl

-- the lines kept of those seen; j slots stand before
pub record Held (xs : List Slot) (j : ℕ) (seen kept : List Line) : Type 0 where
  -- every atom that is in is among the lines kept
  pub atoms : (n : ℕ) → stands_in (take j xs) n ≡ true → named kept n ≡ true
  -- an atom that is not among the lines seen, in the same model, is not among those kept
  pub twins : (a : Identity) → some_of (is_twin a) (front seen) ≡ false → some_of (is_twin a) (front kept) ≡ false

-- ---- one slot more
in_last : (ys : List Slot) (y : Slot) (n : ℕ) → stands_in (ys ++ (y ∷ [])) n ≡ true → (stands_in ys n ≡ true) ⊎ (is_in n y ≡ true)
unfolding stands_in
in_last [] y n e = either_split (is_in n y) false inr (λ f. never f) e
in_last (x ∷ ys) y n e =
    either_split (is_in n x) (stands_in (ys ++ (y ∷ [])) n) (λ h. inl (either_left (is_in n x) (stands_in ys n) h))
    (λ h. ⊎_elim (λ r. inl (either_right (is_in n x) (stands_in ys n) r)) inr (in_last ys y n h)) e

in_more : (xs : List Slot) (j n : ℕ) → j < length xs → stands_in (take (j + 1) xs) n ≡ true → (stands_in (take j xs) n ≡ true) ⊎ (is_in n (get_or xs j no_slot) ≡ true)
in_more xs j n h e = in_last (take j xs) (get_or xs j no_slot) n (rw (add-one j, take-suc xs j no_slot h) at e)

-- the slot of an atom that is in is beside its line
closes_site : (n : ℕ) (p : Option Spot) → is_spot p ≡ true → spot_closes p ≡ false → spot_serial p ≡ n → is_atom n p ≡ true
closes_site n (Some (Site het a)) c o e = eq-eqb _ _ e
closes_site n (Some (Close t)) c o e = never (sym o)
closes_site n None c o e = never c

in_site : (xs : List Slot) (j n : ℕ) (l : Line) (ls : List Line) → is_coord l ≡ true → Beside xs j l ls → is_in n (get_or xs j no_slot) ≡ true → is_site n l ≡ true
unfolding is_in
in_site xs j n l ls c B e =
    let h = both_split (not (is_ter (get_or xs j no_slot))) _ (both_split (not (eqb (get_or xs j no_slot).mark mark_aside)) _ e).1 in
    closes_site n (spot_in l) c (sym B.ter ∙ not_true _ h.0) (sym B.serial ∙ eqb-true _ _ h.1)

in_mark : (xs : List Slot) (j n : ℕ) → is_in n (get_or xs j no_slot) ≡ true → in_slot xs j ≡ true
unfolding is_in
in_mark xs j n e = (both_split (not (eqb (get_or xs j no_slot).mark mark_aside)) _ e).0

module _ (xs : List Slot) (j : ℕ) (seen kept : List Line) (H : Held xs j seen kept) where
  -- a line more that is seen and not kept
  twins_less : (l : Line) → is_fence l ≡ false → (a : Identity) → some_of (is_twin a) (front (l ∷ seen)) ≡ false → some_of (is_twin a) (front kept) ≡ false
  unfolding some_of front
  twins_less l f a e = H.twins a (either_none (is_twin a l) (some_of (is_twin a) (front seen)) (rw f at e)).1

  -- a line more that is kept as m
  twins_more : (l m : Line) → is_fence l ≡ false → is_fence m ≡ false → ((a : Identity) → is_twin a l ≡ false → is_twin a m ≡ false)
      → (a : Identity) → some_of (is_twin a) (front (l ∷ seen)) ≡ false → some_of (is_twin a) (front (m ∷ kept)) ≡ false
  unfolding some_of front either
  twins_more l m f g t a e =
      let h = either_none (is_twin a l) (some_of (is_twin a) (front seen)) (rw f at e) in
      rw (g, t a h.0) (H.twins a h.1)

  -- a coordinate line that is in
  pub held_in : (l : Line) (ls : List Line) → is_coord l ≡ true → Beside xs j l ls → Held xs (j + 1) (l ∷ seen) (l ∷ kept)
  unfolding some_of
  held_in l ls c B =
      record {
        atoms = λ n e.
            ⊎_elim (λ r. either_right (is_site n l) (named kept n) (H.atoms n r)) (λ i. either_left (is_site n l) (named kept n) (in_site xs j n l ls c B i))
            (in_more xs j n B.within e);
        twins = twins_more l l (coord_off l c) (coord_off l c) (λ a e. e);
      }

  -- one that is set aside
  pub held_out : (l : Line) (ls : List Line) → is_coord l ≡ true → Beside xs j l ls → in_slot xs j ≡ false → Held xs (j + 1) (l ∷ seen) kept
  held_out l ls c B out =
      record {
        atoms = λ n e. ⊎_elim (H.atoms n) (λ i. never (sym out ∙ in_mark xs j n i)) (in_more xs j n B.within e);
        twins = twins_less l (coord_off l c);
      }

  -- a line without a slot, dropped
  pub held_skip : (l : Line) → is_fence l ≡ false → Held xs j (l ∷ seen) kept
  held_skip l f = record { atoms = H.atoms; twins = twins_less l f }

  -- or kept as m, which is no atom
  pub held_other : (l m : Line) → is_fence l ≡ false → is_fence m ≡ false → ((a : Identity) → is_twin a m ≡ false) → Held xs j (l ∷ seen) (m ∷ kept)
  unfolding some_of
  held_other l m f g other =
      record { atoms = λ n e. either_right (is_site n m) (named kept n) (H.atoms n e); twins = twins_more l m f g (λ a e. other a) }

  -- MODEL and ENDMDL: atoms are looked for from there on
  pub held_fence : (l : Line) → is_fence l ≡ true → Held xs j (l ∷ seen) (l ∷ kept)
  unfolding some_of front
  held_fence l f = record { atoms = λ n e. either_right (is_site n l) (named kept n) (H.atoms n e); twins = λ a e. rw f }

  held_partner : (n : ℕ) → partner_in (take j xs) n ≡ true → partner_known kept n ≡ true
  held_partner n e = either_split (eqb n 0) (stands_in (take j xs) n) (λ z. either_left (eqb n 0) (named kept n) z) (λ s. either_right (eqb n 0) (named kept n) (H.atoms n s)) e

  -- the numbers on a CONECT line that stays are known among the lines kept
  pub held_bond : (c : Conect) → bond_in (take j xs) c ≡ true → bond_known kept (Some c) ≡ true
  unfolding both
  held_bond c e =
      let k0 = both_split (stands_in (take j xs) c.serial.0) _ e in
      let k1 = both_split (partner_in (take j xs) c.a.0) _ k0.1 in
      let k2 = both_split (partner_in (take j xs) c.b.0) _ k1.1 in
      let k3 = both_split (partner_in (take j xs) c.c.0) _ k2.1 in
      rw (H.atoms c.serial.0 k0.0, held_partner c.a.0 k1.0, held_partner c.b.0 k2.0, held_partner c.c.0 k3.0, held_partner c.d.0 k3.1)
