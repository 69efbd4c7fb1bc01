use Rattle.tool_words.proofs.fill.calculate_parts.Goals as goal

pub returns : goal.returns
returns c = λ i. record {
  osrel = c.in_ok-optional_value.ensures i;
  cmdline = c.in_ok-optional_value-2.ensures i;
  sbat = c.in_ok-optional_value-3.ensures i;
  dtb = c.in_ok-optional_value-4.ensures i;
  uname = c.in_ok-optional_value-5.ensures i;
  splash = c.in_ok-optional_value-6.ensures i;
  pcrpkey = c.in_ok-optional_value-7.ensures i;
  ucode = c.in_ok-optional_value-8.ensures i;
}
