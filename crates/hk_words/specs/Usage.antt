-- What is printed where the words are no command.
use Rattle.std.specs.Prelude.{codes}
use Rattle.hk_base.specs.Bytes.{Bytes}

-- a line for each command, with what it takes
abbrev pub usage : Bytes
usage = codes "usage: hakyll_cli build [--workers N] [--trace]\n       hakyll_cli rebuild [--workers N] [--trace]\n       hakyll_cli check\n       hakyll_cli deps\n       hakyll_cli clean\n       hakyll_cli gen NUMBER COUNT [--workers N]\n       hakyll_cli links\n"
