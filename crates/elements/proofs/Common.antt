-- The usual elements are elements.
-- Assumes nothing.
use mathlib.Core.Path.{◌≡◌, refl, sym, ◌∙◌, ap, ap₂}
use mathlib.Core.List.{List, [], ◌∷◌}
use mathlib.Core.Bool.{Bool, true}
use Prim.Native.Nat.{ℕ}
use lib.ListN.{length, get_or}
use Rattle.ascii.specs.Tests.{either, same, between}
use Rattle.ascii.proofs.Choice.{both_split, either_split, same_is}
use Rattle.names.proofs.Bytes.{name_whole}
use Rattle.names.proofs.Classes.{sized_split}
use Rattle.elements.specs.Elements.{elements, index_of, atomic_of, is_element, usual_of}

plain : (p : List ℕ) (x : ℕ) → length p ≡ 2 → get_or p 0 0 ≡ 32 → get_or p 1 0 ≡ x → is_element (32 ∷ x ∷ []) ≡ true → true ≡ is_element p
plain p x n f g e = let q : p ≡ 32 ∷ x ∷ [] = sym (name_whole 2 p n) ∙ ap₂ (λ u v. u ∷ v ∷ []) f g in sym (ap is_element q ∙ e)

right_one : (x : ℕ) → either (either (same x 67) (either (same x 78) (same x 79))) (either (same x 72) (either (same x 83) (same x 80))) ≡ true
    → is_element (32 ∷ x ∷ []) ≡ true
unfolding atomic_of elements index_of between
right_one x =
    either_split _ _ (either_split _ _ (is 67 refl) (either_split _ _ (is 78 refl) (is 79 refl)))
    (either_split _ _ (is 72 refl) (either_split _ _ (is 83 refl) (is 80 refl)))
  where
    is : (n : ℕ) → is_element (32 ∷ n ∷ []) ≡ true → same x n ≡ true → is_element (32 ∷ x ∷ []) ≡ true
    is n e g = rw (same_is x n g) e

pub usual_element : (p : List ℕ) (u : Bool) → u ≡ usual_of p → u ≡ true → true ≡ is_element p
unfolding usual_of
usual_element p u e t =
    let w = sized_split 2 p _ (sym e ∙ t) in
    let q = both_split (same (get_or p 0 0) 32) _ w.1 in
    plain p (get_or p 1 0) w.0 (same_is (get_or p 0 0) 32 q.0) refl (right_one (get_or p 1 0) q.1)
