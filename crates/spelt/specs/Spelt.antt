-- Each answer in numbers alone, by its number in document 01's table and its values. What an answer does not name is 0.
use Rattle.std.specs.Prelude.{ℕ, Bool, true, false, Option, Some, None, is_some}
use Rattle.compare.specs.Walk.{cursor, first}
use Rattle.compare.specs.declared.Cursor.{Cursor}
use Rattle.compare.specs.declared.Line.TheVariants.{OnlyOlder, OnlyNewer, Changed}
use Rattle.compare.specs.declared.Line.{Line}
use Rattle.compare.specs.declared.Hit.{Hit}
use Rattle.convert.specs.Convert as convert
use Rattle.layout.specs.declared.Descriptor.{Descriptor}
use Rattle.layout.specs.declared.Header.{Header}
use Rattle.paper.specs.Answers.{number_of}
use Rattle.paper.specs.Told.{Told}
use Rattle.paper.specs.declared.ElementId.{ElementId}
use Rattle.paper.specs.declared.Sense as paper
use Rattle.paper.specs.declared.Written.{Written}
use Rattle.reach.specs.Opening as opening
use Rattle.reach.specs.Pages.{end_of}
use Rattle.reach.specs.declared.Turn.TheVariants.{Older, Newer}
use Rattle.reach.specs.declared.Turn.{Turn}
use Rattle.reader.specs.Judgement as pages
use Rattle.scsi.specs.Judgement as dock
use Rattle.walk.specs.Next as walk
use Rattle.spelt.specs.declared.Count.{Count}
use Rattle.spelt.specs.declared.Difference.{Difference}
use Rattle.spelt.specs.declared.Onward.{Onward}
use Rattle.spelt.specs.declared.Opened.{Opened}
use Rattle.spelt.specs.declared.Reading.{Reading}
use Rattle.spelt.specs.declared.Sense.{Sense}
use Rattle.spelt.specs.declared.Stand.{Stand}
use Rattle.spelt.specs.declared.Turned.{Turned}

abbrev pub no_element : ElementId
no_element = record { 0 = 0 }

-- ## A lent buffer

abbrev pub count_of : Written → Count
count_of w = record { count = w.count; answer = number_of w.answer }

-- ## The readers

abbrev pub no_header : Header
no_header = record { number = 0; returned = 0; busy = no_element; limit = 0; removed = 0 }

abbrev pub accepted : Header → ℕ → Bool → ℕ → Reading
accepted h whole torn n = record { place = 0; header = h; whole = whole; torn = torn; answer = n }

abbrev pub refused : ℕ → ℕ → Reading
refused p n = record { place = p; header = no_header; whole = 0; torn = false; answer = n }

-- of a page every descriptor that is returned is there
abbrev pub page_reading_for : ℕ → pages.Values → Reading
page_reading_for n (pages.header h) = accepted h h.returned false n
page_reading_for n (pages.place p) = refused p n

abbrev pub page_reading : Told pages.Values → Reading
page_reading t = page_reading_for t.number t.state

abbrev pub data_reading_for : ℕ → dock.Values → Reading
data_reading_for n (dock.reading h whole torn) = accepted h whole torn n
data_reading_for n (dock.place p) = refused p n

abbrev pub data_reading : Told dock.Values → Reading
data_reading t = data_reading_for t.number t.state

abbrev pub no_descriptor : Descriptor
no_descriptor = record { id = no_element; restorable = false; kind = 0; health = 0; capacity = 0 }

abbrev pub stand_of : Option Descriptor → Stand
stand_of None = record { descriptor = no_descriptor; there = false }
stand_of (Some d) = record { descriptor = d; there = true }

-- ## The walk

abbrev pub onward_for : ℕ → walk.Values → Onward
onward_for n (walk.ask id) = record { place = 0; start = id; asks = true; answer = n }
onward_for n walk.end = record { place = 0; start = no_element; asks = false; answer = n }
onward_for n (walk.place p) = record { place = p; start = no_element; asks = false; answer = n }

abbrev pub onward_of : Told walk.Values → Onward
onward_of t = onward_for t.number t.state

-- ## The comparison

abbrev pub turn_of : Turn → ℕ
turn_of Older = 1
turn_of Newer = 2

abbrev pub opened_for : ℕ → opening.Values → Opened
opened_for n (opening.bound b) = record { end = end_of b; cut = is_some b; turn = 0; answer = n }
opened_for n (opening.turn t) = record { end = no_element; cut = false; turn = turn_of t; answer = n }

abbrev pub opened_of : Told opening.Values → Opened
opened_of t = opened_for t.number t.state

-- 1 only in the older, 2 only in the newer, 3 changed; 0 no difference any more
abbrev pub difference_at : Line → Cursor → Difference
difference_at (OnlyOlder k) next = record { at = cursor k 0; next = next; kind = 1 }
difference_at (OnlyNewer k) next = record { at = cursor 0 k; next = next; kind = 2 }
difference_at (Changed c) next = record { at = c; next = next; kind = 3 }

abbrev pub difference_of : Option Hit → Difference
difference_of None = record { at = first; next = first; kind = 0 }
difference_of (Some h) = difference_at h.line h.next

-- ## The conversion

abbrev pub turned_for : ℕ → convert.Outcome → Turned
turned_for n (convert.put out) = record { count = out.count; place = 0; answer = n }
turned_for n (convert.place p buf) = record { count = 0; place = p; answer = n }

abbrev pub turned_of : Told convert.Outcome → Turned
turned_of t = turned_for t.number t.state

-- ## "Sense key/ASC/ASCQ": none is not 0/00/00

abbrev pub sense_of : Option paper.Sense → Sense
sense_of None = record { there = false; key = 0; asc = 0; ascq = 0 }
sense_of (Some s) = record { there = true; key = s.key; asc = s.asc; ascq = s.ascq }
