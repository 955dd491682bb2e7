-- Words that encode instructions, one instruction after another.
use Rattle.std.proofs.Common.{◌≡◌, ℕ, zero, suc, ◌^◌, ◌<◌, List, [], ◌∷◌, ◌++◌, Some, sym, ap, ◌∙◌, subst, append_assoc}
use Rattle.std.specs.Prelude.{is_some}
use Rattle.std.proofs.lemmas.List.{append-nil}
use Rattle.rv32_isa.specs.declared.instr.Instr.{Instr}
use Rattle.rv32_isa.specs.Table.{instr_of}
use Rattle.rv32_layout.specs.Places.{Encode, AllDecode, AppendsInstructions}

pub encode_push : (is : List Instr) (ws : List ℕ) (i : Instr) (w : ℕ) → Encode is ws
    → instr_of w ≡ Some i → w < 2 ^ 32 → Encode (is ++ i ∷ []) (ws ++ w ∷ [])
encode_push [] [] i w h is small = (is, (small, tt))
encode_push [] (v ∷ ws) i w h is small = absurd h
encode_push (j ∷ js) [] i w h is small = absurd h
encode_push (j ∷ js) (v ∷ ws) i w h is small = (h.0, (h.1.0, encode_push js ws i w h.1.1 is small))

pub puts_none : (ws : List ℕ) → AppendsInstructions [] ws ws
puts_none ws before h = subst (λ is. Encode is ws) (sym (append-nil before)) h

pub puts_both : (a b : List Instr) (u v w : List ℕ) → AppendsInstructions a u v
    → AppendsInstructions b v w → AppendsInstructions (a ++ b) u w
puts_both a b u v w first second before h =
    subst (λ is. Encode is w) (append_assoc before a b) (second (before ++ a) (first before h))

-- words that encode instructions decode
pub all_decode : (is : List Instr) (ws : List ℕ) → Encode is ws → AllDecode ws
all_decode [] [] h n w e = cc
all_decode [] (v ∷ ws) h n w e = absurd h
all_decode (i ∷ is) [] h n w e = absurd h
all_decode (i ∷ is) (v ∷ ws) h zero w e = let same : v ≡ w = cc
    in ap is_some (ap instr_of (sym same) ∙ h.0)
all_decode (i ∷ is) (v ∷ ws) h (suc n) w e = all_decode is ws h.1.1 n w e
