use Rattle.std.proofs.Common.{refl}
use Rattle.match_compile.specs.declared.compile.Heading.{Heading}
use Rattle.match_compile.proofs.ApartIs.{apart_more}
use Rattle.match_compile.proofs.compile.taken_apart.Goals as goal

pub loop-equation-preserved : goal.loop-equation-preserved
loop-equation-preserved c =
    let e = c.in-Some.equation in
    let h : Heading = record { name = e.name; at = e.at; pats = e.pats } in
    let more = apart_more c.loop-equation.headings c.push.new.self c.loop-equation.bodies
    c.push-in-loop-equation.new.self h e c.loop-equation.yielded refl c.in_ok-push.ensures.ok
    c.in_ok-push-2.ensures.ok c.loop-equation.invariant.same c.loop-equation.invariant.equations
    in
    record { same = more.0; equations = more.1 }
