use Rattle.std.proofs.Common.{◌∙◌, sym, arith}
use Rattle.pe_reader.specs.Prelude.{headers_of}
use Rattle.image_build.proofs.Listed.{linux_added, linux_counted, text_added, text_counted}
use Rattle.image_build.proofs.Imaged.{images_without, images_in_place, images_as_part, is_none, is_some}
use Rattle.image_build.proofs.Planning.{found_read}
use Rattle.image_build.proofs.build_plan.counted_plan.Goals as goal

pub image_plan-requires-clause-few : goal.image_plan-requires-clause-few
image_plan-requires-clause-few c =
    (linux_counted c.args.parts.items c.in_ok-list.list c.add.new.self c.args.linux c.args.sbat.items c.requires.parts c.requires.counted
    c.in_ok-list.ensures c.in_ok-add.ensures.ok).few

pub image_plan-requires-clause-total : goal.image_plan-requires-clause-total
image_plan-requires-clause-total c =
    (linux_counted c.args.parts.items c.in_ok-list.list c.add.new.self c.args.linux c.args.sbat.items c.requires.parts c.requires.counted
    c.in_ok-list.ensures c.in_ok-add.ensures.ok).total

pub returns-then-is_empty-clause-images : goal.returns-then-is_empty-clause-images
returns-then-is_empty-clause-images c view found =
    let read = found_read view (headers_of c.args.head.now) c.args.stub.length c.args.stub.path c.args.parts.items c.args.linux c.args.sbat.items c.requires.counted found in
    images_without view (headers_of c.args.head.now) c.args.stub.length c.args.stub.path c.args.parts.items c.add.new.self c.args.linux c.args.sbat.items c.image_plan.result c.requires.parts
    (linux_added c.args.parts.items c.in_ok-list.list c.add.new.self c.args.linux c.requires.parts c.in_ok-list.ensures c.in_ok-add.ensures.ok)
    (omega (arith, c.args.sbat.ok.0, is_none c.is_empty.result c.args.sbat.len c.is_empty.ensures c.if-is_empty.true)) c.image_plan.ensures read

pub image_plan-requires-then-has_sbat-clause-few : goal.image_plan-requires-then-has_sbat-clause-few
image_plan-requires-then-has_sbat-clause-few c =
    (linux_counted c.args.parts.items c.in_ok-list.list c.add-then-has_sbat.new.self c.args.linux c.args.sbat.items c.requires.parts
    c.requires.counted c.in_ok-list.ensures c.in_ok-add-2.ensures.ok).few

pub image_plan-requires-then-has_sbat-clause-total : goal.image_plan-requires-then-has_sbat-clause-total
image_plan-requires-then-has_sbat-clause-total c =
    (linux_counted c.args.parts.items c.in_ok-list.list c.add-then-has_sbat.new.self c.args.linux c.args.sbat.items c.requires.parts
    c.requires.counted c.in_ok-list.ensures c.in_ok-add-2.ensures.ok).total

pub returns-then-has_sbat-clause-images : goal.returns-then-has_sbat-clause-images
returns-then-has_sbat-clause-images c view found =
    let read = found_read view (headers_of c.args.head.now) c.args.stub.length c.args.stub.path c.args.parts.items c.args.linux c.args.sbat.items c.requires.counted found in
    images_in_place view (headers_of c.args.head.now) c.args.stub.length c.args.stub.path c.args.parts.items c.add-then-has_sbat.new.self c.args.linux
    c.args.sbat.items c.len-length.result c.image_plan-then-has_sbat.result c.requires.parts
    (linux_added c.args.parts.items c.in_ok-list.list c.add-then-has_sbat.new.self c.args.linux c.requires.parts c.in_ok-list.ensures c.in_ok-add-2.ensures.ok)
    (omega (arith, c.args.sbat.ok.0, is_some c.is_empty.result c.args.sbat.len c.is_empty.ensures c.if-is_empty.false))
    (sym c.has_sbat.ensures ∙ c.if-has_sbat.true) (omega (arith, c.args.sbat.ok.0, c.len-length.ensures)) c.image_plan-then-has_sbat.ensures read

pub image_plan-requires-2-clause-few : goal.image_plan-requires-2-clause-few
image_plan-requires-2-clause-few c =
    (text_counted c.args.parts.items c.in_ok-list.list c.add-2.new.self c.add-3.new.self c.args.linux c.in_ok-sbat_part.field-0 c.args.sbat.items
    c.requires.parts c.in_ok-sbat_part.ensures c.requires.counted c.in_ok-list.ensures
    c.in_ok-add-3.ensures.ok c.in_ok-add-4.ensures.ok).few

pub image_plan-requires-2-clause-total : goal.image_plan-requires-2-clause-total
image_plan-requires-2-clause-total c =
    (text_counted c.args.parts.items c.in_ok-list.list c.add-2.new.self c.add-3.new.self c.args.linux c.in_ok-sbat_part.field-0 c.args.sbat.items
    c.requires.parts c.in_ok-sbat_part.ensures c.requires.counted c.in_ok-list.ensures
    c.in_ok-add-3.ensures.ok c.in_ok-add-4.ensures.ok).total

pub returns-clause-images : goal.returns-clause-images
returns-clause-images c view found =
    let read = found_read view (headers_of c.args.head.now) c.args.stub.length c.args.stub.path c.args.parts.items c.args.linux c.args.sbat.items c.requires.counted found in
    images_as_part view (headers_of c.args.head.now) c.args.stub.length c.args.stub.path c.args.parts.items c.add-3.new.self c.args.linux
    c.in_ok-sbat_part.field-0 c.args.sbat.items c.new.result.items c.image_plan-2.result
    c.requires.parts c.in_ok-sbat_part.ensures
    (text_added c.args.parts.items c.in_ok-list.list c.add-2.new.self c.add-3.new.self c.args.linux c.in_ok-sbat_part.field-0 c.args.sbat.items
    c.requires.parts c.in_ok-sbat_part.ensures c.in_ok-list.ensures
    c.in_ok-add-3.ensures.ok c.in_ok-add-4.ensures.ok)
    (omega (arith, c.args.sbat.ok.0, is_some c.is_empty.result c.args.sbat.len c.is_empty.ensures c.if-is_empty.false)) (sym c.has_sbat.ensures ∙ c.if-has_sbat.false) c.image_plan-2.ensures read
