-- Small compiled grammars of the worked examples.
use Rattle.std.specs.Prelude.{ℕ, List, [], ◌∷◌, codes}
use Rattle.gft_core.specs.declared.symbol.Sym.{Sym}
use Rattle.gft_core.specs.declared.symbol.Sym.TheVariants.{Tok, Arg}
use Rattle.gft_pmcfg.specs.declared.signature.AType.{AType}
use Rattle.gft_pmcfg.specs.declared.signature.Cat.{Cat}
use Rattle.gft_pmcfg.specs.declared.signature.Abstract.{Abstract}
use Rattle.gft_pmcfg.specs.declared.concrete.Info.{Info}
use Rattle.gft_pmcfg.specs.declared.concrete.Def.{Def}
use Rattle.gft_pmcfg.specs.declared.concrete.Ref.{Ref}
use Rattle.gft_pmcfg.specs.declared.concrete.Concrete.{Concrete}

-- a category without indices, as a category and as a type
abbrev plain : List ℕ → Cat
plain name = record { name = name; context = [] }

abbrev of : ℕ → AType
of cat = record { cat = cat; args = [] }

-- the categories, with those of literals before them
abbrev cats : List Cat → List Cat
cats cs = plain (codes "Int") ∷ plain (codes "String") ∷ cs

-- one case with one string cell
abbrev single : ℕ → Info
single first = record { first = first; count = 1; dim = 1 }

-- the only component of the first argument
abbrev pub whole : List Sym
whole = Arg 0 0 ∷ []

abbrev def_of : ℕ → Def
def_of n = record { result = n; seqs = whole ∷ [] }

abbrev ref_of : ℕ → Ref
ref_of n = record { arg = n; seq = whole }

-- `abstract Twice = {cat S ; X ; fun Dup : X -> S ; A : X ;}`, with S 2 and X 3
abbrev pub twice : Abstract
twice = record {
  name = codes "Twice";
  start = 2;
  cats = cats (plain (codes "S") ∷ plain (codes "X") ∷ []);
  funs = record { name = codes "A"; args = []; result = of 3 } ∷ record {
    name = codes "Dup";
    args =
        of 3 ∷ [];
    result = of 2;
  } ∷ [];
}

-- `Dup x = {s = x.s ++ x.s} ; A = {s = "a" | "b"}`
abbrev pub twice_eng : Concrete
twice_eng = record {
  name = codes "TwiceEng";
  infos = single 0 ∷ single 1 ∷ single 2 ∷ single 3 ∷ [];
  prods =
      record { fun = 0; args = []; result = 3; seqs = (Tok (codes "a") ∷ []) ∷ [] }
      ∷ record { fun = 0; args = []; result = 3; seqs = (Tok (codes "b") ∷ []) ∷ [] }
      ∷ record { fun = 1; args = 3 ∷ []; result = 2; seqs = (Arg 0 0 ∷ Arg 0 0 ∷ []) ∷ [] } ∷ [];
  defs = def_of 2 ∷ def_of 3 ∷ [];
  refs = ref_of 2 ∷ ref_of 3 ∷ [];
}

-- `abstract Cyc = {cat Q ; fun Base : Q ; Very : Q -> Q ;}`, with Q 2
abbrev pub cyc : Abstract
cyc = record {
  name = codes "Cyc";
  start = 2;
  cats = cats (plain (codes "Q") ∷ []);
  funs = record { name = codes "Base"; args = []; result = of 2 } ∷ record {
    name = codes "Very";
    args =
        of 2 ∷ [];
    result = of 2;
  } ∷ [];
}

-- `Base = {s = "q"} ; Very q = {s = [] ++ q.s}`
abbrev pub cyc_eng : Concrete
cyc_eng = record {
  name = codes "CycEng";
  infos = single 0 ∷ single 1 ∷ single 2 ∷ [];
  prods = record { fun = 0; args = []; result = 2; seqs = (Tok (codes "q") ∷ []) ∷ [] } ∷ record {
    fun =
        1;
    args = 2 ∷ [];
    result = 2;
    seqs = whole ∷ [];
  } ∷ [];
  defs = def_of 2 ∷ [];
  refs = ref_of 2 ∷ [];
}

-- `abstract Gend = {cat S ; K ; fun f : K -> S ; m, n : K ;}`, with K 2 and S 3
abbrev pub gend : Abstract
gend = record {
  name = codes "Gend";
  start = 3;
  cats = cats (plain (codes "K") ∷ plain (codes "S") ∷ []);
  funs =
      record { name = codes "f"; args = of 2 ∷ []; result = of 3 } ∷ record {
        name = codes "m";
        args =
            [];
        result = of 2;
      }
      ∷ record { name = codes "n"; args = []; result = of 2 } ∷ [];
}

-- `f k = {s = case k.g of {Ma => "x" ; Fe => "x"}}` over K with the nonterminals 2 and 3, to S with 4; m is of 2, n of 3
abbrev pub gend_eng : Concrete
gend_eng = record {
  name = codes "GendEng";
  infos = single 0 ∷ single 1 ∷ record { first = 2; count = 2; dim = 1 } ∷ single 4 ∷ [];
  prods =
      record { fun = 0; args = 2 ∷ []; result = 4; seqs = (Tok (codes "x") ∷ []) ∷ [] }
      ∷ record { fun = 0; args = 3 ∷ []; result = 4; seqs = (Tok (codes "x") ∷ []) ∷ [] }
      ∷ record { fun = 1; args = []; result = 2; seqs = (Tok (codes "m") ∷ []) ∷ [] }
      ∷ record { fun = 2; args = []; result = 3; seqs = (Tok (codes "n") ∷ []) ∷ [] } ∷ [];
  defs = def_of 2 ∷ def_of 3 ∷ def_of 4 ∷ [];
  refs = ref_of 2 ∷ ref_of 3 ∷ ref_of 4 ∷ [];
}

-- `abstract Dead = {cat S ; D ; fun f : D -> S ; g : D -> D ; h : S ;}`, with D 2 and S 3
abbrev pub dead : Abstract
dead = record {
  name = codes "Dead";
  start = 3;
  cats = cats (plain (codes "D") ∷ plain (codes "S") ∷ []);
  funs =
      record { name = codes "f"; args = of 2 ∷ []; result = of 3 } ∷ record {
        name = codes "g";
        args =
            of 2 ∷ [];
        result = of 2;
      }
      ∷ record { name = codes "h"; args = []; result = of 3 } ∷ [];
}

-- `f d = {s = "no" ++ d.s} ; g d = {s = "ever" ++ d.s} ; h = {s = "yes"}`
abbrev pub dead_eng : Concrete
dead_eng = record {
  name = codes "DeadEng";
  infos = single 0 ∷ single 1 ∷ single 2 ∷ single 3 ∷ [];
  prods =
      record { fun = 0; args = 2 ∷ []; result = 3; seqs = (Tok (codes "no") ∷ Arg 0 0 ∷ []) ∷ [] }
      ∷ record { fun = 1; args = 2 ∷ []; result = 2; seqs = (Tok (codes "ever") ∷ Arg 0 0 ∷ []) ∷ [] }
      ∷ record { fun = 2; args = []; result = 3; seqs = (Tok (codes "yes") ∷ []) ∷ [] } ∷ [];
  defs = def_of 2 ∷ def_of 3 ∷ [];
  refs = ref_of 2 ∷ ref_of 3 ∷ [];
}

-- the same where a hole of D gives nothing: `lindef D = variants {}`
abbrev pub barren_eng : Concrete
barren_eng = record {
  name = codes "BarrenEng";
  infos = dead_eng.infos;
  prods = dead_eng.prods;
  defs = def_of 3 ∷ [];
  refs = dead_eng.refs;
}

-- `abstract Nil = {cat S ; fun None, Blank, Word : S ;}`, with S 2
abbrev pub nil : Abstract
nil = record {
  name = codes "Nil";
  start = 2;
  cats = cats (plain (codes "S") ∷ []);
  funs =
      record { name = codes "Blank"; args = []; result = of 2 } ∷ record {
        name = codes "None";
        args = [];
        result = of 2;
      }
      ∷ record { name = codes "Word"; args = []; result = of 2 } ∷ [];
}

-- `None = {s = variants {}} ; Blank = {s = []} ; Word = {s = "w"}`
abbrev pub nil_eng : Concrete
nil_eng = record {
  name = codes "NilEng";
  infos = single 0 ∷ single 1 ∷ single 2 ∷ [];
  prods =
      record { fun = 0; args = []; result = 2; seqs = [] ∷ [] }
      ∷ record { fun = 2; args = []; result = 2; seqs = (Tok (codes "w") ∷ []) ∷ [] } ∷ [];
  defs = def_of 2 ∷ [];
  refs = ref_of 2 ∷ [];
}

-- `abstract Ages = {cat Cmd ; fun Age : Int -> Cmd ;}`, with Cmd 2
abbrev pub ages : Abstract
ages = record {
  name = codes "Ages";
  start = 2;
  cats = cats (plain (codes "Cmd") ∷ []);
  funs = record { name = codes "Age"; args = of 0 ∷ []; result = of 2 } ∷ [];
}

-- `Age n = {s = "age" ++ n.s}`
abbrev pub ages_eng : Concrete
ages_eng = record {
  name = codes "AgesEng";
  infos = single 0 ∷ single 1 ∷ single 2 ∷ [];
  prods =
      record { fun = 0; args = 0 ∷ []; result = 2; seqs = (Tok (codes "age") ∷ Arg 0 0 ∷ []) ∷ [] } ∷ [];
  defs = def_of 2 ∷ [];
  refs = ref_of 2 ∷ [];
}
