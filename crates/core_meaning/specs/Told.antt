-- What evaluation by need tells of a program.
use Rattle.arity_check.specs.Program.{Program}
use Rattle.headline.specs.Carries.{End, going, done, no_alternative, Meaning}
use Rattle.core_meaning.specs.Printing as core
use Rattle.core_meaning.specs.Printing.{Done, Unaccepted, Going, printed}

abbrev pub meaning_end : core.PrintingEnd → End
meaning_end Going = going
meaning_end Done = done
meaning_end Unaccepted = no_alternative

abbrev pub core_program_meaning : Program → Meaning
core_program_meaning p i n =
    let r = printed p i n in
    record { out = r.out; end = meaning_end r.end; cells = r.cells; depth = r.depth; used = r.used }
