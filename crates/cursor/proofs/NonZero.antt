-- A struct around a number that is not 0 is told by its number alone.
use Rattle.std.proofs.Common.{◌≡◌, ℕ, zero, suc, ◌<◌, Some, Ok, Result, ap, suc-le-suc, zero-le, not-suc-le-zero}
use native.Mathlib.Bridge.{le_prop}
use Rattle.cursor.specs.declared.stride.Stride.{Stride}
use Rattle.cursor.specs.declared.stride.StrideFault.{StrideFault}
use Rattle.cursor.specs.declared.shortfall.Shortfall.{Shortfall}
use Rattle.cursor.specs.NonZero.{stride_of, shortfall_of}

abbrev pub stride : (n : ℕ) → 0 < n → Stride
stride n h = record { steps = n; some = h }

abbrev shortfall : (n : ℕ) → 0 < n → Shortfall
shortfall n h = record { places = n; some = h }

pub same_stride : (n : ℕ) (h k : 0 < n) → stride n h ≡ stride n k
same_stride n h k = ap (stride n) (le_prop h k)

abbrev ok_stride : Stride → Result Stride StrideFault
ok_stride s = Ok s

pub made_stride : (n : ℕ) (h : 0 < n) → ok_stride (stride n h) ≡ stride_of n
made_stride zero h = absurd (not-suc-le-zero h)
made_stride (suc n) h = ap ok_stride (same_stride (suc n) h (suc-le-suc zero-le))

pub made_shortfall : (n : ℕ) (h : 0 < n) → Some (shortfall n h) ≡ shortfall_of n
made_shortfall zero h = absurd (not-suc-le-zero h)
made_shortfall (suc n) h = ap (λ (k : 0 < suc n). Some (shortfall (suc n) k)) (le_prop h (suc-le-suc zero-le))
