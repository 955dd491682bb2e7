use Rattle.std.proofs.Common.{rules, ◌≡◌, ◌+◌, ◌-◌, ◌<◌, ◌≤◌, drop, take, length, sym, subst, ◌∙◌, arith}
use Rattle.core_reader.specs.LexedOf.{texts_of, IsTokenOf}
use Rattle.core_reader.proofs.Lexing.{gap_here, token_here, bad_here, end_here, fits_text, on_gap, on_token, on_large, on_bad, on_end}
use Rattle.core_reader.proofs.lexer.lex.Goals as goal

pub loop-len-preserved-in-Gap : goal.loop-len-preserved-in-Gap
loop-len-preserved-in-Gap c =
    let text = c.args.text.now in
    let at = c.loop-len.at in
    let h = gap_here c.args.dialect text at c.in-Gap.len c.look.result c.look.ensures c.in-Gap.is in
    on_gap c.args.dialect text at c.in-Gap.len c.loop-len.lexemes.items
    (texts_of c.loop-len.names.keys) c.loop-len.invariant h.0

pub overflow_add-at-in-Token : goal.overflow_add-at-in-Token
overflow_add-at-in-Token c =
    let text = c.args.text.now in
    let at = c.loop-len.at in
    let h = token_here c.args.dialect text at c.in-Token.len c.in-Token.kind c.look.result
    c.look.ensures c.in-Token.is in
    let w = fits_text text at c.in-Token.len c.loop-len.invariant.within h.0.within in
    omega (arith, w)

pub slice_bounds-token_of-end : goal.slice_bounds-token_of-end
slice_bounds-token_of-end c =
    let text = c.args.text.now in
    let at = c.loop-len.at in
    let h = token_here c.args.dialect text at c.in-Token.len c.in-Token.kind c.look.result
    c.look.ensures c.in-Token.is in
    let w : at + c.in-Token.len ≤ length text = fits_text text at c.in-Token.len
    c.loop-len.invariant.within h.0.within in
    search (rules, w)

pub loop-len-preserved : goal.loop-len-preserved
loop-len-preserved c =
    let text = c.args.text.now in
    let at = c.loop-len.at in
    let n = c.in-Token.len in
    let h = token_here c.args.dialect text at n c.in-Token.kind c.look.result c.look.ensures
    c.in-Token.is in
    let e : at + n - at ≡ n = omega arith in
    let t : IsTokenOf c.args.dialect (texts_of c.loop-len.names.keys)
    (texts_of c.token_of.new.names.keys) (take n (drop at text)) c.in-Token.kind
    c.in_ok-token-in-Token.token =
    subst (λ m. IsTokenOf c.args.dialect (texts_of c.loop-len.names.keys)
    (texts_of c.token_of.new.names.keys) (take m (drop at text)) c.in-Token.kind
    c.in_ok-token-in-Token.token) e c.in_ok-token-in-Token.ensures in
    on_token c.args.dialect text at n c.in-Token.kind c.in_ok-token-in-Token.token
    c.loop-len.lexemes.items c.push.new.self.items (texts_of c.loop-len.names.keys)
    (texts_of c.token_of.new.names.keys) c.loop-len.invariant h.0 t
    (sym c.is_large.ensures ∙ c.if-is_large.false) c.in_ok-push-in-Token.ensures.items

pub returns-then-is_large : goal.returns-then-is_large
returns-then-is_large c =
    let text = c.args.text.now in
    let at = c.loop-len.at in
    let n = c.in-Token.len in
    let h = token_here c.args.dialect text at n c.in-Token.kind c.look.result c.look.ensures
    c.in-Token.is in
    let e : at + n - at ≡ n = omega arith in
    let t : IsTokenOf c.args.dialect (texts_of c.loop-len.names.keys)
    (texts_of c.token_of.new.names.keys) (take n (drop at text)) c.in-Token.kind
    c.in_ok-token-in-Token.token =
    subst (λ m. IsTokenOf c.args.dialect (texts_of c.loop-len.names.keys)
    (texts_of c.token_of.new.names.keys) (take m (drop at text)) c.in-Token.kind
    c.in_ok-token-in-Token.token) e c.in_ok-token-in-Token.ensures in
    on_large c.args.dialect text at n c.in-Token.kind c.in_ok-token-in-Token.token
    c.loop-len.lexemes.items c.push.new.self.items (texts_of c.loop-len.names.keys)
    (texts_of c.token_of.new.names.keys) c.loop-len.invariant h.0 t
    (sym c.is_large.ensures ∙ c.if-is_large.true) c.in_ok-push-in-Token.ensures.items

pub loop-len-smaller : goal.loop-len-smaller
loop-len-smaller c =
    let text = c.args.text.now in
    let at = c.loop-len.at in
    let h = token_here c.args.dialect text at c.in-Token.len c.in-Token.kind c.look.result
    c.look.ensures c.in-Token.is in
    let w = fits_text text at c.in-Token.len c.loop-len.invariant.within h.0.within in
    let z : 0 < c.in-Token.len = h.1 in
    omega (arith, w, z)

pub returns-in-Bad : goal.returns-in-Bad
returns-in-Bad c =
    let text = c.args.text.now in
    on_bad c.args.dialect text c.loop-len.at c.loop-len.lexemes.items _
    (texts_of c.loop-len.names.keys) c.loop-len.invariant
    (bad_here c.args.dialect text c.loop-len.at c.look.result c.look.ensures c.in-Bad.is)
    c.in_ok-push-in-Bad.ensures.items

pub returns-in-End : goal.returns-in-End
returns-in-End c =
    let text = c.args.text.now in
    on_end c.args.dialect text c.loop-len.at c.loop-len.lexemes.items _
    (texts_of c.loop-len.names.keys) c.loop-len.invariant
    (end_here c.args.dialect text c.loop-len.at c.look.result c.look.ensures c.in-End.is)
    c.in_ok-push-in-End.ensures.items

pub overflow_add-at : goal.overflow_add-at
overflow_add-at c =
    let text = c.args.text.now in
    let at = c.loop-len.at in
    let h = gap_here c.args.dialect text at c.in-Gap.len c.look.result c.look.ensures c.in-Gap.is in
    let w = fits_text text at c.in-Gap.len c.loop-len.invariant.within h.2 in
    omega (arith, w)

pub loop-len-smaller-in-Gap : goal.loop-len-smaller-in-Gap
loop-len-smaller-in-Gap c =
    let text = c.args.text.now in
    let at = c.loop-len.at in
    let h = gap_here c.args.dialect text at c.in-Gap.len c.look.result c.look.ensures c.in-Gap.is in
    let w = fits_text text at c.in-Gap.len c.loop-len.invariant.within h.2 in
    let z : 0 < c.in-Gap.len = h.1 in
    omega (arith, w, z)
