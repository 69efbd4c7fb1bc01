use Rattle.tool_words.proofs.fill.build_parts.Goals as goal

pub returns : goal.returns
returns c = λ i. record {
  osrel = c.in_ok-text_or_file.ensures i;
  cmdline = c.in_ok-text_or_file-2.ensures i;
  sbat = c.in_ok-text_or_file-3.ensures i;
  dtb = c.in_ok-file.ensures i;
  uname = c.in_ok-inline.ensures i;
  splash = c.in_ok-file-2.ensures i;
  pcrpkey = c.in_ok-file-3.ensures i;
  ucode = c.in_ok-file-4.ensures i;
}
