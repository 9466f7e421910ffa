-- Which error of reading a refused choice is.
use Rattle.ale_base.specs.declared.input.ChooseError.{ChooseError}
use Rattle.ale_base.specs.declared.input.ChooseError.TheVariants as choose
use Rattle.ale_base.specs.declared.reading.ReadError.{ReadError}
use Rattle.ale_base.specs.declared.reading.ReadError.TheVariants as read

abbrev pub read_error : ChooseError → ReadError
read_error choose.Failed = read.Failed
read_error choose.NoMemory = read.NoMemory
