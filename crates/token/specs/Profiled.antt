-- What a profile stands for.
use Rattle.grammar.specs.Profile as grammar
use Rattle.token.specs.declared.profiles.Profile.{Profile}

abbrev pub profiled : Profile → grammar.Profile
profiled Profile.Script = grammar.Profile.script
profiled Profile.Guard = grammar.Profile.guard
