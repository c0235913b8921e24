-- What a pattern's error is as the fault of an expression.
use Rattle.regex.specs.declared.error.Error.{Error}
use Rattle.regex.specs.declared.error.Error.TheVariants as pattern
use Rattle.topic_expressions.specs.declared.fault.ExpressionFault.{ExpressionFault}
use Rattle.topic_expressions.specs.declared.fault.ExpressionFault.TheVariants.{Refused, NoMemory}

abbrev pub fault_of : Error → ExpressionFault
fault_of (pattern.Syntax error) = Refused
fault_of pattern.CompiledTooBig = Refused
fault_of pattern.Internal = Refused
fault_of pattern.OutOfMemory = NoMemory
