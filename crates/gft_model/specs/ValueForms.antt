-- Values and parameter values as they are made, form by form.
use Rattle.std.specs.Prelude.{ℕ, List}
use Rattle.gft_core.specs.declared.symbol.Sym.{Sym}
use Rattle.gft_syntax.specs.declared.reference.Whole.{Whole}
use Rattle.gft_syntax.specs.declared.value.Param.{Param, roll-Param}
use Rattle.gft_syntax.specs.declared.value.Param.TheOpen as Param-F
use Rattle.gft_syntax.specs.declared.value.Value.{Value, roll-Value}
use Rattle.gft_syntax.specs.declared.value.Value.TheOpen as Value-F

-- a constructor with its arguments
abbrev pub con_param : Whole → List Param → Param
con_param w vs = roll-Param (Param-F.Con w vs)

-- a number
abbrev pub number_param : ℕ → Param
number_param n = roll-Param (Param-F.Ints n)

-- a record of parameters
abbrev pub record_param : List (List ℕ × Param) → Param
record_param fs = roll-Param (Param-F.Record fs)

-- a string
abbrev pub string_value : List Sym → Value
string_value ss = roll-Value (Value-F.Str ss)

-- a parameter
abbrev pub param_value : Param → Value
param_value v = roll-Value (Value-F.Param v)

-- a record
abbrev pub record_value : List (List ℕ × Value) → Value
record_value fs = roll-Value (Value-F.Record fs)

-- a table
abbrev pub table_value : List (Param × Value) → Value
table_value es = roll-Value (Value-F.Table es)
