-- What the builder reads, as the code holds it.
-- Assumes nothing.
use Rattle.polynomial.specs.declared.Polynomial.{Polynomial}
use Rattle.polynomial.specs.Polynomial.{PatternCall, pattern_call_of}

abbrev pub call_of : Polynomial → PatternCall
call_of p = pattern_call_of p.bits p.f1 p.f2
