-- What the two ranges say.
use Rattle.pe_reader.specs.Prelude.{headers_of}
use Rattle.boot_entries.proofs.Ukis.{no_linux, no_osrel, by_osrel, os_length, past_length, no_length}
use Rattle.boot_entries.proofs.uki.osrel_range.Goals as goal
use Rattle.boot_entries.proofs.uki.osrel_range.Goals.{then-count-eq0-via-then-count-eq0, then-count-eq0-via-else-count-eq0+then-count-gt-TEXT_LIMIT}

pub returns-then-linux-eq0-clause-finds : goal.returns-then-linux-eq0-clause-finds
returns-then-linux-eq0-clause-finds c file reads path =
    no_linux path file (headers_of c.args.head.now) reads c.range_named-linux.result (c.range_named-linux.ensures.range file reads) c.if-linux-eq0.true

pub returns-then-count-eq0-clause-finds : goal.returns-then-count-eq0-clause-finds
returns-then-count-eq0-clause-finds c file reads path =
    no_osrel path file (headers_of c.args.head.now) reads c.range_named-linux.result (c.range_named-linux.ensures.range file reads) c.if-linux-eq0.false
    c.range_named-osrel.result (c.range_named-osrel.ensures.range file reads)
    (elim c.then-count-eq0.branch [ then-count-eq0-via-then-count-eq0 w ↦ no_length _ w.if-count-eq0.true | then-count-eq0-via-else-count-eq0+then-count-gt-TEXT_LIMIT w ↦ past_length _ w.if-count-gt-TEXT_LIMIT.true ])

pub returns-clause-finds : goal.returns-clause-finds
returns-clause-finds c file reads = record {
  range_is = c.range_named-osrel.ensures.range file reads;
  says = λ path.
      by_osrel path file (headers_of c.args.head.now) reads c.range_named-linux.result (c.range_named-linux.ensures.range file reads) c.if-linux-eq0.false
      c.range_named-osrel.result (c.range_named-osrel.ensures.range file reads) (os_length _ c.if-count-eq0.false c.if-count-gt-TEXT_LIMIT.false);
}
