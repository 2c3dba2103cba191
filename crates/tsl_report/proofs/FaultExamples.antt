-- The lines of some faults, which compute.
use Rattle.std.specs.Prelude.{◌≡◌, codes, refl}
use Rattle.std.specs.Fmt.{digits}
use Rattle.tsl_report.specs.declared.fault.Head.TheVariants.{Tables as TablesHead, Lrat}
use Rattle.tsl_report.specs.declared.fault.TokenPart.TheVariants.{Spec}
use Rattle.tsl_report.specs.declared.fault.DataPart.TheVariants.{Inputs}
use Rattle.tsl_report.specs.declared.fault.ProgramRule.TheVariants.{Order}
use Rattle.tsl_report.specs.declared.fault.LimitName.TheVariants.{Text, Run, Width}
use Rattle.tsl_report.specs.declared.fault.Fault.TheVariants.{Parts, Byte, Deep, Defined, Cycle, Arity, DeepUse, Twice}
use Rattle.tsl_report.specs.declared.fault.Fault.TheVariants.{TableRange, WordsArity, Program, CnfForm, Large}
use Rattle.tsl_report.specs.FaultText.{fault_text}

missing_line : fault_text (Parts Lrat) ≡ codes "fault parts lrat\n"
missing_line = refl

bad_byte : fault_text (Byte Spec (record { line = 3; column = 17 })) ≡ codes "fault spec 3:17 byte\n"
unfolding digits
bad_byte = refl

too_deep : fault_text (Deep (record { line = 1; column = 213 })) ≡ codes "fault spec 1:213 deep\n"
unfolding digits
too_deep = refl

other_arity : fault_text (Arity (record { line = 1; column = 18 }) (codes "p")) ≡ codes "fault spec 1:18 arity p\n"
unfolding digits
other_arity = refl

defined_twice : fault_text (Defined (record { line = 1; column = 8 }) (codes "a")) ≡ codes "fault spec 1:8 defined a\n"
unfolding digits
defined_twice = refl

own_use : fault_text (Cycle (record { line = 1; column = 1 }) (codes "a")) ≡ codes "fault spec 1:1 cycle a\n"
unfolding digits
own_use = refl

deep_use : fault_text (DeepUse (record { line = 2; column = 13 }) (codes "moves")) ≡ codes "fault spec 2:13 deepuse moves\n"
unfolding digits
deep_use = refl

missing_clause : fault_text (CnfForm 6) ≡ codes "fault cnf 6 form\n"
unfolding digits
missing_clause = refl

long_text : fault_text (Large Text 268435456) ≡ codes "large text 268435456\n"
unfolding digits
long_text = refl

missing_head : fault_text (Parts TablesHead) ≡ codes "fault parts tables\n"
missing_head = refl

second_input : fault_text (Twice Inputs (record { line = 2; column = 9 }) (codes "x")) ≡ codes "fault inputs 2:9 twice x\n"
unfolding digits
second_input = refl

large_entry : fault_text (TableRange (codes "p") 2) ≡ codes "fault tables range p 2\n"
unfolding digits
large_entry = refl

other_operation : fault_text (WordsArity (codes "f")) ≡ codes "fault words arity f\n"
other_operation = refl

wide_words : fault_text (Large Width 16) ≡ codes "large width 16\n"
unfolding digits
wide_words = refl

wrong_order : fault_text (Program 5 Order) ≡ codes "fault program 5 order\n"
unfolding digits
wrong_order = refl

long_run : fault_text (Large Run 65536) ≡ codes "large run 65536\n"
unfolding digits
long_run = refl
