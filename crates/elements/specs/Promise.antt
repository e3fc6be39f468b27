-- The rule of the table of elements: which pairs have a number, and which share one. It is proved in proofs/.
use Rattle.std.specs.Prelude.{◌<◌, ◌≡◌, ◌⊎◌}
use Rattle.ascii.specs.Library.{ℕ, suc, List, true, length}
use Rattle.elements.specs.Elements.{elements, atomic_of, is_element, symbol_of, hydrogen, deuterium}

pub record TableRule : Type 0 where
  -- the table has a place for each pair of a blank or a letter, and a letter
  pub size : length elements ≡ 702
  -- an entry that is not 0 is D's, or that of the symbol of a number from 1 to 118, and is this number
  pub all : (p : List ℕ) → is_element p ≡ true → (p ≡ deuterium) ⊎ ((n : ℕ) × (n < 118) × (p ≡ symbol_of (suc n)) × (atomic_of p ≡ suc n))
  -- each symbol has its number
  pub each : (n : ℕ) → n < 118 → atomic_of (symbol_of (suc n)) ≡ suc n
  -- D has the number of H
  pub heavy : atomic_of deuterium ≡ 1
  -- two pairs that share a number are one pair, or H and D
  pub shared : (p q : List ℕ) → is_element p ≡ true → atomic_of p ≡ atomic_of q
      → (p ≡ q) ⊎ (((p ≡ hydrogen) × (q ≡ deuterium)) ⊎ ((p ≡ deuterium) × (q ≡ hydrogen)))
