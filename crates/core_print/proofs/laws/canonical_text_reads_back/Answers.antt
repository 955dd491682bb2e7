use Rattle.core_print.proofs.RoundTrip.{canonical_stands}
use Rattle.core_print.proofs.laws.canonical_text_reads_back.Goals as goal

pub returns : goal.returns
returns c = canonical_stands
