use Rattle.cpml.proofs.Memories.{placed}
use mathlib.Core.Path.{refl}
use Rattle.cpml.proofs.memory.place.Goals as goal

pub returns-in-Exy : goal.returns-in-Exy
returns-in-Exy c = placed _ _ c.in-Exy.is c.electric.ensures.0 c.electric.ensures.1 refl

pub returns-in-Exz : goal.returns-in-Exz
returns-in-Exz c = placed _ _ c.in-Exz.is c.electric-in-Exz.ensures.0 c.electric-in-Exz.ensures.1 refl

pub returns-in-Eyz : goal.returns-in-Eyz
returns-in-Eyz c = placed _ _ c.in-Eyz.is c.electric-in-Eyz.ensures.0 c.electric-in-Eyz.ensures.1 refl

pub returns-in-Eyx : goal.returns-in-Eyx
returns-in-Eyx c = placed _ _ c.in-Eyx.is c.electric-in-Eyx.ensures.0 c.electric-in-Eyx.ensures.1 refl

pub returns-in-Ezx : goal.returns-in-Ezx
returns-in-Ezx c = placed _ _ c.in-Ezx.is c.electric-in-Ezx.ensures.0 c.electric-in-Ezx.ensures.1 refl

pub returns-in-Ezy : goal.returns-in-Ezy
returns-in-Ezy c = placed _ _ c.in-Ezy.is c.electric-in-Ezy.ensures.0 c.electric-in-Ezy.ensures.1 refl

pub returns-in-Hxy : goal.returns-in-Hxy
returns-in-Hxy c = placed _ _ c.in-Hxy.is c.magnetic.ensures.0 c.magnetic.ensures.1 refl

pub returns-in-Hxz : goal.returns-in-Hxz
returns-in-Hxz c = placed _ _ c.in-Hxz.is c.magnetic-in-Hxz.ensures.0 c.magnetic-in-Hxz.ensures.1 refl

pub returns-in-Hyz : goal.returns-in-Hyz
returns-in-Hyz c = placed _ _ c.in-Hyz.is c.magnetic-in-Hyz.ensures.0 c.magnetic-in-Hyz.ensures.1 refl

pub returns-in-Hyx : goal.returns-in-Hyx
returns-in-Hyx c = placed _ _ c.in-Hyx.is c.magnetic-in-Hyx.ensures.0 c.magnetic-in-Hyx.ensures.1 refl

pub returns-in-Hzx : goal.returns-in-Hzx
returns-in-Hzx c = placed _ _ c.in-Hzx.is c.magnetic-in-Hzx.ensures.0 c.magnetic-in-Hzx.ensures.1 refl

pub returns-in-Hzy : goal.returns-in-Hzy
returns-in-Hzy c = placed _ _ c.in-Hzy.is c.magnetic-in-Hzy.ensures.0 c.magnetic-in-Hzy.ensures.1 refl
