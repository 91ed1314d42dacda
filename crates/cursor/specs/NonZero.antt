-- Numbers that are never 0, and the refusal of 0.
use Rattle.std.specs.Prelude.{ℕ, zero, suc, Some, None, Ok, Err, Option, Result}
use Rattle.std.proofs.Common.{suc-le-suc, zero-le}
use Rattle.cursor.specs.declared.stride.Stride.{Stride}
use Rattle.cursor.specs.declared.stride.StrideFault.{StrideFault}
use Rattle.cursor.specs.declared.stride.StrideFault.TheVariants.{Zero}
use Rattle.cursor.specs.declared.shortfall.Shortfall.{Shortfall}

-- the stride of n steps, refused where n is 0
abbrev pub stride_of : ℕ → Result Stride StrideFault
stride_of zero = Err Zero
stride_of (suc n) = Ok (record { steps = suc n; some = suc-le-suc zero-le })

abbrev pub one_stride : Stride
one_stride = record { steps = 1; some = suc-le-suc zero-le }

-- the number of the refusal
abbrev pub stride_number : StrideFault → ℕ
stride_number Zero = 1

-- the shortfall of n places, none where n is 0
abbrev pub shortfall_of : ℕ → Option Shortfall
shortfall_of zero = None
shortfall_of (suc n) = Some (record { places = suc n; some = suc-le-suc zero-le })
