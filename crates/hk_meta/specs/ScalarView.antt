-- What contracts see of what is read.
use Rattle.std.specs.Prelude.{Bool}
use Rattle.hk_base.specs.Bytes.{Bytes}
use Rattle.hk_meta.specs.declared.scalar.Read.{Read}
use Rattle.hk_meta.specs.declared.scalar.Scalar.{Scalar}

abbrev pub read_view : Read → Bytes × Bytes
read_view read = (read.value.items, read.rest.now)

abbrev pub scalar_view : Scalar → Bytes × Bool
scalar_view scalar = (scalar.value.items, scalar.plain)
