-- Lines of a report as they are printed.
use mathlib.Core.Path.{◌≡◌, refl}
use Rattle.machine.specs.declared.Machine.{Machine}
use Rattle.machine.specs.declared.Phase.TheVariants.{Done}
use Rattle.inlinevec.specs.declared.Frame.{Frame}
use Rattle.inlinevec.specs.declared.Loop.{Loop}
use Rattle.text.specs.Ascii.{ascii}
use Rattle.text.specs.Numbers.{digit, digits, decimal, filled_in, numbers_left, filled}
use Rattle.text.specs.Lines.{formed, line, said}
use Rattle.report.specs.declared.Report.TheVariants.{After, Open, Called}
use Rattle.report.specs.Reports.{line_of_report}

loop : Loop
loop = record { place = 11; index = 0; limit = 5 }

frame : Frame
frame = record { entry = record { 0 = 1 }; place = 7 }

machine : Machine
machine = record {
  phase = Done;
  height = 1;
  loops = record { count = 0; first = loop; second = loop };
  frames = record { count = 1; first = frame; second = frame };
  memory = 20;
  pool = 300;
  entries = 4;
  next_id = record { 0 = 5 };
  count = 6;
  saved = 78;
}

-- the machine after a call
after : line_of_report (After machine) ≡ ascii "machine height 1 memory 20 pool 300 entries 4 next 5 count 6 saved 78\n"
unfolding line_of_report said line formed filled filled_in numbers_left decimal digits digit ascii machine
after = refl

-- an open loop
open_loop : line_of_report (Open loop) ≡ ascii "loop 11 0 5\n"
unfolding line_of_report said line formed filled filled_in numbers_left decimal digits digit ascii loop
open_loop = refl

-- a frame
called : line_of_report (Called frame) ≡ ascii "frame 1 7\n"
unfolding line_of_report said line formed filled filled_in numbers_left decimal digits digit ascii frame
called = refl
