-- What `recheck` replies on small texts, which compute.
use Rattle.std.specs.Prelude.{◌≡◌, ℕ, List, codes, refl}
use Rattle.std.specs.Fmt.{digits}
use Rattle.cnf_reader.specs.CnfText.{cnf_answer}
use Rattle.refutation_check.specs.LogText.{log_answer}
use Rattle.tsl_report.specs.declared.fault.LimitName.TheVariants.{Variables}
use Rattle.tsl_report.specs.declared.fault.Fault.TheVariants.{CnfForm, LogForm, Large}
use Rattle.tool_io.specs.declared.status.Status.TheVariants.{Done, No}
use Rattle.tool_io.specs.declared.reply.Reply.{Reply}
use Rattle.command_faults.specs.Replies.{fault_reply}
use Rattle.checking_commands.specs.Recheck.{cnf_part, log_part, parts_reply}

abbrev reply_on : List ℕ → List ℕ → Reply
reply_on cnf log = parts_reply (cnf_answer cnf) (log_answer log)

-- a variable that is to be both true and false
abbrev both : List ℕ
both = codes "p cnf 1 2\n1 0\n-1 0\n"

parted_before : cnf_part (codes "p cnf 0 0\nlrat\n1 0 0\n") 10 ≡ codes "p cnf 0 0\n"
parted_before = refl

parted_after : log_part (codes "p cnf 0 0\nlrat\n1 0 0\n") 10 ≡ codes "1 0 0\n"
parted_after = refl

accepted : reply_on both (codes "3 0 1 2 0\n") ≡ record { status = Done; text = codes "verified\n" }
accepted = refl

shows_nothing : reply_on both (codes "3 0 2 2 0\n") ≡ record { status = No; text = codes "refused hint 3 2\n" }
unfolding digits
shows_nothing = refl

number_taken : reply_on both (codes "2 0 1 2 0\n") ≡ record { status = No; text = codes "refused line 2\n" }
unfolding digits
number_taken = refl

no_end : reply_on both (codes "") ≡ record { status = No; text = codes "refused unfinished\n" }
no_end = refl

wrong_formula : reply_on (codes "p cnf 1 3\n1 0\n-1 0\n") (codes "x\n") ≡ fault_reply (CnfForm 4)
wrong_formula = refl

wrong_log : reply_on both (codes "c a log\nx\n") ≡ fault_reply (LogForm 2)
wrong_log = refl

many_variables : reply_on (codes "p cnf 1048577 0\n") (codes "x\n") ≡ fault_reply (Large Variables 1048576)
many_variables = refl
