-- `&` and `|` of two tests are `both` and `either` of them, and `!` of one is a choice.
-- Assumes nothing.
use mathlib.Core.Path.{◌≡◌, refl}
use mathlib.Core.Bool.{Bool, true, false, not, ◌&&◌, ◌||◌}
use Rattle.ascii.specs.Tests.{pick, both, either}

pub and_both : (a b : Bool) → (a && b) ≡ both a b
unfolding both
and_both true b = refl
and_both false b = refl

pub or_either : (a b : Bool) → (a || b) ≡ either a b
unfolding either
or_either true b = refl
or_either false b = refl

pub both_assoc : (a b c : Bool) → both (both a b) c ≡ both a (both b c)
unfolding both
both_assoc true b c = refl
both_assoc false b c = refl

pub both_true : (a : Bool) → both a true ≡ a
unfolding both
both_true true = refl
both_true false = refl

pub true_both : (a : Bool) → both true a ≡ a
unfolding both
true_both a = refl

pub not_pick : (t : Bool) → not t ≡ pick t false true
not_pick true = refl
not_pick false = refl
