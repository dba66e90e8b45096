-- What a fault of a part comes to.
use Rattle.ice_prims.specs.declared.fault.ReadFault.{ReadFault}
use Rattle.ice_prims.specs.declared.fault.ReadFault.TheVariants as read_faults
use Rattle.graph_json.specs.declared.fault.JsonFault.{JsonFault}
use Rattle.graph_json.specs.declared.fault.JsonFault.TheVariants as json_faults
use Rattle.class_slices.specs.declared.write_fault.WriteFault.{WriteFault}
use Rattle.class_slices.specs.declared.write_fault.WriteFault.TheVariants as write_faults
use Rattle.ice_relay.specs.declared.dump_fault.DumpFault.{DumpFault}
use Rattle.ice_relay.specs.declared.dump_fault.DumpFault.TheVariants as dump_faults
use Rattle.ice_relay.specs.declared.fault.RelayFault.{RelayFault}
use Rattle.ice_relay.specs.declared.fault.RelayFault.TheVariants as faults

-- what a fault of reading comes to
abbrev pub of_read : ReadFault → RelayFault
of_read (read_faults.Broken fault) = faults.Broken fault
of_read read_faults.Memory = faults.Memory

-- the same, for one who dumps a value
abbrev pub of_broken : ReadFault → DumpFault
of_broken (read_faults.Broken fault) = dump_faults.Broken fault
of_broken read_faults.Memory = dump_faults.Memory

-- what a fault of a text comes to
abbrev pub of_json : JsonFault → RelayFault
of_json (json_faults.Refused why) = faults.TextRefused why
of_json json_faults.Memory = faults.Memory

-- what a fault of writing comes to
abbrev pub of_write : WriteFault → RelayFault
of_write (write_faults.UnknownNeedsSliced at) = faults.NeedsSliced
of_write (write_faults.TooLong n) = faults.TooLong n
of_write write_faults.Memory = faults.Memory
