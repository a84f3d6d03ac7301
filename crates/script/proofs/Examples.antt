-- Lines of the bench language and what they say, computed from the definitions.
use Prim.Native.String.{String}
use mathlib.Core.List.{◌++◌}
use mathlib.Core.Path.{◌≡◌, refl}
use lib.ListN.{replicate}
use Rattle.arguments.specs.Calls.{element_of, make_of, command_of, grade_of, length_of, next_of}
use Rattle.arguments.specs.DockCalls.{query_in, scsi_of, scsiread_of, toscsi_of, toata_of}
use Rattle.arguments.specs.declared.Bare.TheVariants.{Step}
use Rattle.arguments.specs.declared.DockCall.TheVariants.{Send, ToScsi, ToAta}
use Rattle.arguments.specs.declared.Line.TheVariants.{Passed, NotACall, Element, Make, Command, Bare, Grade, Page, Dock}
use Rattle.arguments.specs.declared.Line.{Line}
use Rattle.arguments.specs.declared.PageCall.TheVariants.{Length, Next, ReadScsi}
use Rattle.lines.specs.Numbers.{field_of, field_at}
use Rattle.lines.specs.Parts.{word_at, named}
use Rattle.paper.specs.declared.Security.TheVariants.{Unlocked}
use Rattle.registers.specs.Registers.{state_of, asked_at}
use Rattle.text.specs.Text.{ascii}
use Rattle.script.specs.Names.{dock_call, page_call, reset_call, event_call, device_call, line_of}

abbrev Says : String → Line → Type 0
Says line call = line_of (ascii line) ≡ call

abbrev Examples : Type 0
Examples =
    (Says "element 10003 1 70 1f4 0" (Element (record { id = record { 0 = 0x1_0003 }; kind = 1; health = 0x70; unreported = 0; spare = 0; blocks = 500 })))
    × (Says "command unlocked 12 4100 1 0 200"
    (Command (record { security = Unlocked; registers = record { code = 0x12; feature = 0x4100; count = 1; lba = record { 0 = 0 } }; length = 512 })))
    × (Says "   make    2  " (Make 2))
    × (Says "grade aBcD CF" (Grade (record { id = record { 0 = 0xABCD }; health = 0xCF })))
    × (Says "length 0000000000010000" (Page (Length 0x1_0000)))
    × (Says "length 10001" NotACall)
    × (Says "next 100 1 10010" (Page (Next (record { feature = 0x100; count = record { 0 = 1 }; lba = record { 0 = 0x1_0010 } }))))
    × (Says "scsi 1 2 30004 ffffffff 10000"
    (Dock (record { call = Send (record { query = record { filter = 1; report = 2; start = record { 0 = 0x3_0004 } }; allocation = 0xFFFF_FFFF }); length = 0x1_0000 })))
    × (Says "scsiread ff 0 ffffffff" (Page (ReadScsi (record { filter = 0xFF; report = 0; start = record { 0 = 0xFFFF_FFFF } }))))
    × (Says "toscsi 4100 2 3 80" (Dock (record { call = ToScsi (record { feature = 0x4100; count = record { 0 = 2 }; lba = record { 0 = 3 } }); length = 128 })))
    × (Says "toata 1 0 5 ffff 200"
    (Dock (record { call = ToAta (record { query = record { filter = 1; report = 0; start = record { 0 = 5 } }; pages = record { 0 = 0xFFFF } }); length = 512 })))
    × (Says "scsiread 100 0 0" NotACall)
    × (Says "scsi 0 0 0 20" NotACall)
    × (Says "length 00000000000010000" NotACall)
    × (Says "step 1" NotACall)
    × (Says "grade 3" NotACall)
    × (Says "   " Passed)
    × (Says " #step" Passed)
    × (line_of (ascii "step" ++ replicate 196 32) ≡ Bare Step)
    × (line_of (ascii "step" ++ replicate 197 32) ≡ NotACall)

pub examples : Examples
unfolding state_of asked_at element_of make_of command_of grade_of length_of next_of query_in scsi_of scsiread_of toscsi_of toata_of dock_call page_call reset_call event_call device_call line_of field_of field_at word_at named
examples = (refl, refl, refl, refl, refl, refl, refl, refl, refl, refl, refl, refl, refl, refl, refl, refl, refl, refl, refl, refl)
