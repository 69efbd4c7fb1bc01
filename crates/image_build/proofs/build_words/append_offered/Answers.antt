use Rattle.std.proofs.Common.{◌<◌, [], length, rules, unwrap_or}
use Rattle.command_plans.proofs.WordErrors.{means_word_error}
use Rattle.uki_parts.specs.Kinds.{kind_name}
use Rattle.image_build.specs.Offers.{offered}
use Rattle.image_build.proofs.Wants.{named_so, with_no_sources, with_sources, with_sources_word_error}
use Rattle.image_build.proofs.build_words.append_offered.Goals as goal

pub returns-in_err-sources : goal.returns-in_err-sources
returns-in_err-sources c =
    let name = unwrap_or (kind_name c.args.row.now.0) [] in
    means_word_error _ c.in_err-sources.field-0.0 _ _ c.from_residual.ensures.0 c.from_residual.ensures.1
    (with_sources_word_error c.in_err-sources.field-0.0 c.args.row.now.0 name (offered c.args.row.now.1) _ c.in_err-sources.ensures)

pub returns-then-is_empty : goal.returns-then-is_empty
returns-then-is_empty c =
    let name = unwrap_or (kind_name c.args.row.now.0) [] in
    with_no_sources c.args.row.now.0 name (offered c.args.row.now.1) c.in_ok-sources.sources.items _ c.in_ok-sources.ensures (search rules)

pub returns : goal.returns
returns c =
    let name = unwrap_or (kind_name c.args.row.now.0) [] in
    let some : 0 < length c.in_ok-sources.sources.items = search rules in
    with_sources c.args.row.now.0 name (offered c.args.row.now.1) c.in_ok-sources.sources.items _ _ c.in_ok-sources.ensures some
    (c.in_ok-push_fixed.ensures name (named_so (kind_name c.args.row.now.0) c.requires))
