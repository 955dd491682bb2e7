use Rattle.std.proofs.Common.{◌^◌, ◌<◌, [], ◌∷◌, ◌++◌, sym, subst, rules}
use Rattle.rv32_layout.specs.Places.{Encode}
use Rattle.rv32_layout.proofs.Encodes.{encode_push}
use Rattle.rv32_layout.proofs.instructions.push.Goals as goal

pub returns : goal.returns
returns c before h =
    let small : c.encode.result < 2 ^ 32 = search rules in
    let more = encode_push before c.args.words.now.items c.args.instr c.encode.result h
    c.encode.ensures.again small in
    subst (λ ws. Encode (before ++ c.args.instr ∷ []) ws) (sym c.in_ok-push.ensures.items) more
