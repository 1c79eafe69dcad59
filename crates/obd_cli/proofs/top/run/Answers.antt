use Rattle.std.proofs.Common.{ap, refl}
use Rattle.obd_cli.specs.Answers.{reads}
use Rattle.obd_cli.proofs.CommandLaws.{numbers_in_range}
use Rattle.obd_cli.proofs.Decides.{completed, finished_from_told, rejected_from_told, sample_ended, usage_told}
use Rattle.obd_cli.proofs.Limits.{budget_from_told, limited_from_told}
use Rattle.obd_cli.proofs.Within.{certified_within, check_within, sample_within}
use Rattle.obd_cli.specs.declared.status.Command.TheVariants as which
use Rattle.obd_cli.proofs.top.run.Goals as goal

pub returns-clause-done : goal.returns-clause-done
returns-clause-done g c = λ done. finished_from_told _ _ _ _ _ _ (numbers_in_range _) done (c.run_words.ensures.told (rw done refl))

pub returns-clause-bad : goal.returns-clause-bad
returns-clause-bad g c = λ bad. rejected_from_told _ _ _ _ _ _ bad (c.run_words.ensures.told (rw bad refl))

pub returns-clause-complete : goal.returns-clause-complete
returns-clause-complete g c = λ bytes which command tells. completed bytes which _ _ _ _ _ _ command tells c.run_words.ensures.told c.run_words.ensures.all

pub returns-clause-usage : goal.returns-clause-usage
returns-clause-usage g c = λ usage. usage_told _ _ _ _ _ _ usage (c.run_words.ensures.told (rw usage refl))

pub returns-clause-limited : goal.returns-clause-limited
returns-clause-limited g c = λ limited. limited_from_told _ _ _ _ _ _ limited (c.run_words.ensures.told (rw limited refl))

pub returns-clause-budget : goal.returns-clause-budget
returns-clause-budget g c = λ budget. budget_from_told _ _ _ _ _ _ budget (c.run_words.ensures.told (rw budget refl))

pub returns-clause-unread : goal.returns-clause-unread
returns-clause-unread g c = λ command. c.run_words.ensures.unread (ap reads command)

pub returns-clause-sample_unread : goal.returns-clause-sample_unread
returns-clause-sample_unread g c = λ seed twists command. c.run_words.ensures.unread (ap reads command)

pub returns-clause-certified : goal.returns-clause-certified
returns-clause-certified g c = λ bytes book command tells few read within no_read_fault no_write_fault.
    certified_within book within bytes few read _ (λ fault. no_read_fault (c.run_words.ensures.read_fault fault)) (λ fault. no_write_fault (c.run_words.ensures.write_fault fault).0)
    (returns-clause-complete g c bytes which.Decide command tells)

pub returns-clause-judged : goal.returns-clause-judged
returns-clause-judged g c = λ bytes command tells few no_read_fault no_write_fault.
    check_within bytes _ few (λ fault. no_read_fault (c.run_words.ensures.read_fault fault)) (λ fault. no_write_fault (c.run_words.ensures.write_fault fault).0)
    (returns-clause-complete g c bytes which.Check command tells)

pub returns-clause-sampled : goal.returns-clause-sampled
returns-clause-sampled g c = λ seed twists command.
    sample_ended seed twists _ _ _ _ _ _ command (c.run_words.ensures.no_read_fault (ap reads command)) c.run_words.ensures.told c.run_words.ensures.all

pub returns-clause-sample_complete : goal.returns-clause-sample_complete
returns-clause-sample_complete g c = λ seed twists command within no_write_fault.
    sample_within seed twists _ within (λ fault. no_write_fault (c.run_words.ensures.write_fault fault).0) (returns-clause-sampled g c seed twists command)
