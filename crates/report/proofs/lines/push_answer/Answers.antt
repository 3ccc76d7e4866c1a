use Rattle.report.proofs.RowLemmas.{certified_written, uncertified_written}
use Rattle.report.proofs.lines.push_answer.Goals as goal

pub returns-in_ok-push_restraints-in-Certified-clause-written : goal.returns-in_ok-push_restraints-in-Certified-clause-written
returns-in_ok-push_restraints-in-Certified-clause-written c =
    certified_written c.args.m.now c.args.case.now c.args.answer.now c.in-Certified.u c.in-Certified.loads c.in-Certified.states c.args.out.now.items c.push_line.new.out.items c.push_nodes.new.out.items c.push_restraints.new.out.items
    c.bytes.result.now c.nodes.result.now c.restraints.result.now c.as_slice.result.now c.as_slice-in-Certified.result.now c.as_slice-in-Certified-2.result.now c.in-Certified.is c.bytes.ensures.bytes c.nodes.ensures.records c.restraints.ensures.records
    c.as_slice.ensures c.as_slice-in-Certified.ensures c.as_slice-in-Certified-2.ensures c.in_ok-push_line-in-Certified.ensures.written c.in_ok-push_nodes-in-Certified.ensures.written c.in_ok-push_restraints-in-Certified.ensures.written

pub returns-in_ok-push_candidate-in-Uncertified-clause-written : goal.returns-in_ok-push_candidate-in-Uncertified-clause-written
returns-in_ok-push_candidate-in-Uncertified-clause-written c =
    uncertified_written c.args.m.now c.args.case.now c.args.answer.now c.in-Uncertified.cause c.in-Uncertified.guess c.args.out.now.items c.push_uncertified.new.out.items c.push_candidate.new.out.items c.as_slice-in-Uncertified.result.now
    c.in-Uncertified.is c.as_slice-in-Uncertified.ensures c.in_ok-push_uncertified-in-Uncertified.ensures.written c.in_ok-push_candidate-in-Uncertified.ensures.written
