use Rattle.byte_blocks.proofs.Reading.{read_back, one_form, short}
use Rattle.byte_blocks.proofs.laws.blocks_have_one_form.Goals as goal

pub returns : goal.returns
returns c = record {
  read_back = read_back;
  one_form = λ all bytes rest are is. one_form all bytes rest is are;
  short = λ all bytes rest are is. short all bytes rest is are;
}
