-- The bounds that are known of a program alone are no smaller than what its image needs.
use Rattle.std.proofs.Common.{◌+◌, arith}
use Rattle.seq.proofs.Order.{more_times}
use Rattle.grin_compile.specs.Limits.{largest_frame, frame_bound, steps_per_unit}
use Rattle.grin_compile.specs.Words.{most_steps}
use Rattle.grin_compile.specs.Bounds.{ImageIsWithinBounds}

pub within_bounds : ImageIsWithinBounds
within_bounds p A g l frames cells stack code addresses file image = (
  λ t full. omega (
    arith,
    full,
    more_times (largest_frame frames) (frame_bound p A) (t.depth + 1)
        image.small_frame,
  ),
  λ i bytes n m le. image.paced i bytes n m
      (omega (
        arith,
        le,
        more_times (most_steps code addresses) (steps_per_unit p A) (n + 1)
            image.few_steps,
      )),
)
