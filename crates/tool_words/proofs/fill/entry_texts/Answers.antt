use Rattle.tool_words.proofs.fill.entry_texts.Goals as goal

pub returns : goal.returns
returns c = λ i. record {
  title = c.in_ok-optional_value.ensures i;
  version = c.in_ok-optional_value-2.ensures i;
  machine_id = c.in_ok-optional_value-3.ensures i;
  sort_key = c.in_ok-optional_value-4.ensures i;
  options = c.in_ok-optional_value-5.ensures i;
}
