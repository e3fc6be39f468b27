-- After any orders nothing is lost and nothing is altered.
-- Assumes nothing.
use Prim.Native.Nat.{ℕ, zero, suc, ◌+◌, ◌<◌}
use mathlib.Core.List.{List, [], ◌∷◌, map}
use mathlib.Core.Bool.{Bool, true, false, not}
use mathlib.Core.Path.{◌≡◌, refl, sym, ◌∙◌, ap, ap₂}
use native.Mathlib.Omega.{arith}
use borrow.Author.Tests.{eqb-true, eqb-false}
use lib.Dec.{eqb, ltb}
use lib.ListN.{length, get_or, length-map}
use Rattle.ascii.specs.Tests.{pick}
use Rattle.pieces.specs.Pieces.{line_of}
use Rattle.places.specs.Counts.{no_counts}
use Rattle.rows.specs.Text.{cut, row}
use Rattle.facets.specs.Facets.{is_fence}
use Rattle.gate.specs.Gate.{check_of}
use Rattle.slots.specs.declared.Slot.{Slot}
use Rattle.table.specs.Table.{Told, told, over, lines_from, loaded_of, one_of, load_of}
use Rattle.table.specs.Orders.{Order, orders_of}
use Rattle.table.specs.Promise.{stays_from, own_of, bare, HasRoom, Parted, NothingLost, Promises}
use Rattle.table.proofs.Ready.{Ready, ready_table}
use Rattle.table.proofs.Orders.{orders_ready}
use Rattle.table.proofs.Fresh.{fresh_ready}
use Rattle.table.proofs.Aside.{line_goes}
use Rattle.table.proofs.Shares.{cut_bytes, fence_stays, shares_sum, shares_tray}
use Rattle.table.proofs.Rows.{line_row}
use Rattle.table.proofs.Bare.{shares_bare}
use Rattle.table.proofs.Again.{saved_again}
use Rattle.table.proofs.Room.{put_wrote, put_granted, room_enough}
use Rattle.table.proofs.Refused.{safe_refusals}

-- a load that is granted leaves the slots of an accepted text, and past them the slots as found
granted_load : (t : List ℕ) (xs : List Slot) → (load_of t xs).number ≡ 0 → ((check_of t).number ≡ 0) × ((load_of t xs).left ≡ over (loaded_of t) xs)
unfolding load_of
granted_load t xs = go (eqb (check_of t).number 0) refl (ltb (length xs) (length (loaded_of t)))
  where
    go : (p : Bool) → eqb (check_of t).number 0 ≡ p → (q : Bool)
        → (pick {A = Told Slot} (not p) (told (check_of t).number 0 xs) (pick {A = Told Slot} q (told 13 0 xs) (told 0 (length (loaded_of t)) (over (loaded_of t) xs)))).number ≡ 0
        → ((check_of t).number ≡ 0)
        × ((pick {A = Told Slot} (not p) (told (check_of t).number 0 xs) (pick {A = Told Slot} q (told 13 0 xs) (told 0 (length (loaded_of t)) (over (loaded_of t) xs)))).left ≡ over (loaded_of t) xs)
    go false e q z = absurd (eqb-false _ _ e z)
    go true e true z = absurd (omega arith)
    go true e false z = (eqb-true _ _ e, refl)

-- MODEL and ENDMDL lines stay
bounds_stay : (xs : List Slot) (ps : List (List ℕ)) (k i : ℕ) → i < length ps → is_fence (line_of (get_or ps i [])) ≡ true → get_or (stays_from xs k (map line_of ps)) i false ≡ true
unfolding stays_from
bounds_stay xs [] k i h f = absurd (omega arith)
bounds_stay xs (p ∷ ps) k zero h f = fence_stays xs k (line_of p) f
bounds_stay xs (p ∷ ps) k (suc i) h f = bounds_stay xs ps (k + one_of (line_of p)) i (omega arith) f

-- a line by its index
row_at : (t : List ℕ) (i : ℕ) → i < length (cut t) → is_fence (row t i) ≡ true → is_fence (line_of (get_or (cut t) i [])) ≡ true
unfolding lines_from
row_at t i h f =
    let n : i < length (lines_from t 0) = rw (length-map (cut t) line_of) h in
    let z : 0 + i ≡ i = omega arith in
    let e : get_or (map line_of (cut t)) i (line_of []) ≡ row t i = rw z at (line_row t (line_of []) i 0 n) in
    rw (sym (get_map (cut t) i) ∙ e) f
  where
    get_map : (ps : List (List ℕ)) (i : ℕ) → get_or (map line_of ps) i (line_of []) ≡ line_of (get_or ps i [])
    get_map [] i = refl
    get_map (p ∷ ps) zero = refl
    get_map (p ∷ ps) (suc i) = get_map ps i

-- the lines of a text whose table belongs to it, in the saved entry and in the tray
parted : (t : List ℕ) (xs : List Slot) → Ready t xs → (o p : List ℕ) → HasRoom true t xs o → HasRoom false t xs p → Parted t xs o p
unfolding lines_from
parted t xs R o p h g =
    let z = ready_table t xs R in
    let a = put_wrote true t xs z o h in
    let b = put_wrote false t xs z p g in
    let e = R.good in
    record {
      save_granted = put_granted true t xs z o h;
      tray_granted = put_granted false t xs z p g;
      again = rw a (saved_again t xs z);
      saved = rw a (ap (map bare) (cut_bytes true t xs e) ∙ shares_bare t xs e);
      bounds = λ i k f. bounds_stay xs (cut t) 0 i k (row_at t i k f);
      tray = rw b (cut_bytes false t xs e ∙ shares_tray xs 0 false no_counts (cut t));
      sum = rw (a, b) (ap₂ ◌+◌ (ap length (cut_bytes true t xs e)) (ap own_of (cut_bytes false t xs e)) ∙ shares_sum xs 0 false no_counts (cut t));
    }

after_loading : (t : List ℕ) (xs : List Slot) (os : List Order) → (check_of t).number ≡ 0 → NothingLost t (over (loaded_of t) xs) os
unfolding lines_from
after_loading t xs os e =
    let ys = orders_of t (over (loaded_of t) xs) os in
    let R = orders_ready t (over (loaded_of t) xs) os (fresh_ready t xs e) in
    record {
      belongs = ready_table t ys R;
      aside = λ i h c. line_goes t xs os e i (rw (length-map (cut t) line_of) h) c;
      parted = parted t ys R;
    }

-- a text loaded into any slots, and any orders
pub nothing_lost : (t : List ℕ) (xs : List Slot) (os : List Order) → (load_of t xs).number ≡ 0 → NothingLost t (load_of t xs).left os
nothing_lost t xs os z = rw (granted_load t xs z).1 (after_loading t xs os (granted_load t xs z).0)

pub promises : Promises
promises = record { nothing_lost = nothing_lost; room_enough = room_enough; safe_refusals = safe_refusals }
