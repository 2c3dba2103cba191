-- The windows before this one are congruent.
use Rattle.program_check.proofs.SoundWindows.{AreSoundBefore}
use Rattle.program_check.proofs.windows.unsound_window.Given as goal

abbrev pub invariant-loop-place : goal.invariant-loop-place
invariant-loop-place l = AreSoundBefore l.spec.names l.cells l.window-items l.place
