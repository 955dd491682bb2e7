-- Alternatives and branches that stand before others.
use Rattle.std.proofs.Common.{◌≡◌, List, [], ◌∷◌, ◌++◌, refl, ap}
use Rattle.core_reader.specs.Tree.{Alts, NoAlts, alts_of}
use Rattle.arity_check.specs.Program.{Branches, NoMore, branches_of}

abbrev pub before_alts : List (Alts → Alts) → Alts → Alts
before_alts [] rest = rest
before_alts (alt ∷ alts) rest = alt (before_alts alts rest)

abbrev pub before_branches : List (Branches → Branches) → Branches → Branches
before_branches [] rest = rest
before_branches (branch ∷ branches) rest = branch (before_branches branches rest)

pub alts_snoc : (alts : List (Alts → Alts)) (alt : Alts → Alts) (rest : Alts)
    → before_alts (alts ++ alt ∷ []) rest ≡ before_alts alts (alt rest)
alts_snoc [] alt rest = refl
alts_snoc (a ∷ alts) alt rest = ap a (alts_snoc alts alt rest)

pub branches_snoc : (branches : List (Branches → Branches)) (branch : Branches → Branches)
    (rest : Branches) → before_branches (branches ++ branch ∷ []) rest ≡ before_branches branches
    (branch rest)
branches_snoc [] branch rest = refl
branches_snoc (b ∷ branches) branch rest = ap b (branches_snoc branches branch rest)

pub all_alts : (alts : List (Alts → Alts)) → before_alts alts NoAlts ≡ alts_of alts
all_alts [] = refl
all_alts (a ∷ alts) = ap a (all_alts alts)

pub all_branches : (branches : List (Branches → Branches))
    → before_branches branches NoMore ≡ branches_of branches
all_branches [] = refl
all_branches (b ∷ branches) = ap b (all_branches branches)
