use Rattle.rv32_steps.proofs.Straight.{instructions_act, straight_code_runs}
use Rattle.rv32_steps.proofs.Words.{zero_words, zeros_are_words}
use Rattle.rv32_steps.proofs.straight_code_runs.Goals as goal

pub returns : goal.returns
returns c = record {
  each = instructions_act;
  all = straight_code_runs;
  zeros
      = λ n. (zero_words n, zeros_are_words n);
}
