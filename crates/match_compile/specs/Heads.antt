-- When two tests accept the same values, and when they are of one kind.
use Rattle.std.specs.Prelude.{◌==◌, Bool, true, false}
use Rattle.std.specs.Ordering.{int_eq}
pub use Rattle.match_compile.specs.declared.head.Head.{Head}
pub use Rattle.match_compile.specs.declared.head.Head.TheVariants.{Integer, Constructor}

abbrev pub same_head : Head → Head → Bool
same_head (Integer k) (Integer j) = int_eq k j
same_head (Integer k) (Constructor d) = false
same_head (Constructor c) (Integer j) = false
same_head (Constructor c) (Constructor d) = c == d

-- both are integers, or both constructors
abbrev pub same_kind : Head → Head → Bool
same_kind (Integer k) (Integer j) = true
same_kind (Integer k) (Constructor d) = false
same_kind (Constructor c) (Integer j) = false
same_kind (Constructor c) (Constructor d) = true
