-- The words of the library that all definitions use, passed on as they are.
pub use Rattle.std.specs.Prelude.{◌%◌, ◌*◌, ◌+◌, ◌-◌, ◌/◌, ◌<◌, ◌≤◌, max, min, suc, zero, ℕ, List, [], ◌++◌, ◌∷◌, map, Bool, false, not, true, ◌≡◌, ◌⊎◌, eqb, leb, ltb, drop, get_or, length, take, ◌+ℤ◌, nat_abs, negsuc, pos, ℤ, ◌≤ℤ◌}
pub use Prim.Native.String.{String}
pub use Rattle.std.specs.Int.Signed.{lt_z}
unfoldable pub use Rattle.ascii.specs.Bytes.{byte, bytes}
unfoldable pub use Rattle.ascii.specs.Tests.{alike, between, both, either, is_code, is_digit, is_upper, pick, same}
