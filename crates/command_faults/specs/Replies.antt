-- What a run says: its status, and one text.
use Rattle.tsl_report.specs.declared.fault.Fault.{Fault}
use Rattle.tsl_report.specs.declared.fault.Fault.TheVariants.{Usage as WrongWords, Read, Large as PastLimit}
use Rattle.tsl_report.specs.FaultText.{fault_text}
use Rattle.tool_io.specs.declared.status.Status.{Status}
use Rattle.tool_io.specs.declared.status.Status.TheVariants.{Usage, Reading, Large, ReadFault}
use Rattle.tool_io.specs.declared.reply.Reply.{Reply}

-- the status at a fault
abbrev pub fault_status : Fault → Status
fault_status WrongWords = Usage
fault_status Read = ReadFault
fault_status (PastLimit name limit) = Large
fault_status _ = Reading

-- the reply at a fault: its line
abbrev pub fault_reply : Fault → Reply
fault_reply fault = record { status = fault_status fault; text = fault_text fault }
