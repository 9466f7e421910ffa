-- The plain data of each kind of template, for a program that takes templates apart.
use Rattle.ale_macro.specs.Codes.{data_type, data_variable, data_at, data_all, data_any, data_differs, data_meet, data_call, data_cells}

pub ruleset template_rules = (data_type, data_variable, data_at, data_all, data_any, data_differs, data_meet, data_call, data_cells)
