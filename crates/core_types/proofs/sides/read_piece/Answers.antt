use Rattle.std.proofs.Common.{◌≡◌, ◌-◌, ℕ, List, [], ◌∷◌, ◌++◌, length, map, take, drop, sym, ap, ◌∙◌, arith}
use Rattle.std.proofs.lemmas.List.{take-map, drop-map}
use Rattle.seq.proofs.Lists.{length_map, map_push}
use Rattle.core_types.specs.declared.sides.Ty.{Ty}
use Rattle.core_types.specs.Sides.{type_of, typed_of, read_piece}
use Rattle.core_types.proofs.Sided.{piece_made}
use Rattle.core_types.proofs.sides.read_piece.Goals as goal

pub returns-in_ok-push-in-Made : goal.returns-in_ok-push-in-Made
returns-in_ok-push-in-Made c = λ ts e.
    let old : List Ty = c.args.read.now.items in
    let n : ℕ = c.in-Made.count in
    let before : ℕ = c.len-length.result - n in
    let t : Ty = c.in_ok-ty-in-Made.ty in
    let same : c.len-length.result ≡ length old = omega
    (arith, c.len-length.ensures, c.args.read.now.ok.0) in
    let where_from : before ≡ length (map type_of old) - n
    = ap (λ k. k - n) (same ∙ sym (length_map type_of old)) in
    let args : c.from_vec.result ≡ drop before old = c.from_vec.ensures ∙
    c.in_ok-args-in-Made.ensures.tail in
    let items : c.push-in-Made.new.self.items ≡ take before old ++ t ∷ []
    = c.in_ok-push-in-Made.ensures.items ∙ ap (λ (xs : List Ty). xs ++ t ∷ [])
    c.in_ok-args-in-Made.ensures.items in
    ap (map type_of) items
    ∙ map_push type_of (take before old) t
    ∙ ap (λ us. us ++ type_of t ∷ []) (sym (take-map type_of before old))
    ∙ piece_made c.in-Made.symbol n (map type_of old) (type_of t) before where_from
    (λ us f. c.in_ok-ty-in-Made.ensures us
    (ap (map type_of) args ∙ sym (drop-map type_of before old) ∙ f)) ts e
    ∙ ap (λ p. map typed_of (read_piece p ts)) (sym c.in-Made.is)
