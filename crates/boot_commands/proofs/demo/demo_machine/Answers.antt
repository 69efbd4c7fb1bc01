use Rattle.std.proofs.Common.{List, sym, ap, ◌∙◌, subst, bytes_eq}
use Rattle.std.specs.List.{IsDistinct}
use Rattle.memory_machine.specs.Given.{given_files, given_paths}
use Rattle.memory_machine.specs.declared.memory.MemFile.{MemFile}
use Rattle.boot_commands.proofs.Beginning.{distinct, files_are, ready_start, seen_start}
use Rattle.boot_commands.proofs.demo.demo_machine.Goals as goal

pub new-requires : goal.new-requires
new-requires c =
    subst (λ (l : List MemFile). IsDistinct bytes_eq (given_paths l)) (sym c.in_ok-vec.ensures.items)
    (distinct c.in_ok-first.first c.in_ok-second.second c.in_ok-third.third c.in_ok-fourth.fourth
    (record {
      first = record { path = c.in_ok-first.ensures.path; bytes = c.in_ok-first.ensures.bytes };
      second = record { path = c.in_ok-second.ensures.path; bytes = c.in_ok-second.ensures.bytes };
      third = record { path = c.in_ok-third.ensures.path; bytes = c.in_ok-third.ensures.bytes };
      fourth = record { path = c.in_ok-fourth.ensures.path; bytes = c.in_ok-fourth.ensures.bytes };
    }))

pub returns-clause-files : goal.returns-clause-files
returns-clause-files c =
    seen_start c.new.result c.in_ok-vec.field-0.items c.new.ensures.state
    (ap given_files c.in_ok-vec.ensures.items
    ∙ files_are c.in_ok-first.first c.in_ok-second.second c.in_ok-third.third c.in_ok-fourth.fourth
    (record {
      first = record { path = c.in_ok-first.ensures.path; bytes = c.in_ok-first.ensures.bytes };
      second = record { path = c.in_ok-second.ensures.path; bytes = c.in_ok-second.ensures.bytes };
      third = record { path = c.in_ok-third.ensures.path; bytes = c.in_ok-third.ensures.bytes };
      fourth = record { path = c.in_ok-fourth.ensures.path; bytes = c.in_ok-fourth.ensures.bytes };
    }))

pub returns-clause-ready : goal.returns-clause-ready
returns-clause-ready c =
    ready_start c.new.result c.in_ok-vec.field-0.items c.new.ensures.state c.new.ensures.settled
    (ap given_files c.in_ok-vec.ensures.items
    ∙ files_are c.in_ok-first.first c.in_ok-second.second c.in_ok-third.third c.in_ok-fourth.fourth
    (record {
      first = record { path = c.in_ok-first.ensures.path; bytes = c.in_ok-first.ensures.bytes };
      second = record { path = c.in_ok-second.ensures.path; bytes = c.in_ok-second.ensures.bytes };
      third = record { path = c.in_ok-third.ensures.path; bytes = c.in_ok-third.ensures.bytes };
      fourth = record { path = c.in_ok-fourth.ensures.path; bytes = c.in_ok-fourth.ensures.bytes };
    }))
