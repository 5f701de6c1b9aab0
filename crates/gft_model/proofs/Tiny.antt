-- A grammar with one sentence: `abstract T = {cat S ; fun a : S ;}`, with `lin a = {s = "a"}`.
use Rattle.std.specs.Prelude.{[], ◌∷◌, codes}
use Rattle.gft_core.specs.declared.symbol.Sym.TheVariants.{Tok, Arg}
use Rattle.gft_pmcfg.specs.declared.signature.Abstract.{Abstract}
use Rattle.gft_pmcfg.specs.declared.concrete.Concrete.{Concrete}

abbrev pub abs : Abstract
abs = record {
  name = codes "T";
  start = 2;
  cats = record { name = codes "Int"; context = [] } ∷ record {
    name = codes "String";
    context =
        [];
  } ∷ record { name = codes "S"; context = [] } ∷ [];
  funs = record { name = codes "a"; args = []; result = record { cat = 2; args = [] } } ∷ [];
}

abbrev pub eng : Concrete
eng = record {
  name = codes "TE";
  infos = record { first = 0; count = 1; dim = 1 } ∷ record {
    first = 1;
    count = 1;
    dim =
        1;
  } ∷ record { first = 2; count = 1; dim = 1 } ∷ [];
  prods = record { fun = 0; args = []; result = 2; seqs = (Tok (codes "a") ∷ []) ∷ [] } ∷ [];
  defs = record { result = 2; seqs = (Arg 0 0 ∷ []) ∷ [] } ∷ [];
  refs = record { arg = 2; seq = Arg 0 0 ∷ [] } ∷ [];
}
